use Rattle.picture.proofs.Axis.{holds-modelled, holds-planned}
use Rattle.picture.proofs.heights.axis_law.Goals as goal

pub returns-clause-planned : goal.returns-clause-planned
returns-clause-planned c = holds-planned c.args.state.now.encounter c.args.state.now.journal

pub returns-clause-modelled : goal.returns-clause-modelled
returns-clause-modelled c = holds-modelled c.args.state.now.encounter c.args.state.now.journal
