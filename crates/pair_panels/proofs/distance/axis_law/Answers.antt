use Rattle.pair_panels.proofs.Axis.{holds-all}
use Rattle.pair_panels.proofs.distance.axis_law.Goals as goal

pub returns : goal.returns
returns c = holds-all c.args.encounter.now c.args.distance c.args.pair
