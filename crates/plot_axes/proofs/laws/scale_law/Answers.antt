use Rattle.plot_axes.proofs.Shares.{kept}
use Rattle.plot_axes.proofs.laws.scale_law.Goals as goal

pub returns : goal.returns
returns c = kept
