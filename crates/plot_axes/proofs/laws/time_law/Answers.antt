use Rattle.plot_axes.proofs.Shares.{holds}
use Rattle.plot_axes.proofs.laws.time_law.Goals as goal

pub returns : goal.returns
returns c = holds
