use Rattle.plot_axes.proofs.Least.{least}
use Rattle.plot_axes.proofs.laws.step_law.Goals as goal

pub returns : goal.returns
returns c = λ span most steps rising. least span most 0 0 steps rising
