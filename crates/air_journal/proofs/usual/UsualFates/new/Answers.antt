use Rattle.air_journal.proofs.Usually.{are-usual}
use Rattle.air_journal.proofs.usual.UsualFates.new.Goals as goal

pub returns : goal.returns
returns c = are-usual c.args.encounter.now _ c.leave_named.ensures
