use Rattle.deliveries.proofs.Befalling.{second-held}
use Rattle.deliveries.proofs.takes.is_held_back.Goals as goal

pub returns-then-fate-gt0-2 : goal.returns-then-fate-gt0-2
returns-then-fate-gt0-2 c = second-held c.args.fate.now.copies c.args.fate.now.first c.args.fate.now.second c.args.fate.now.third c.if-fate-ge2.true c.if-fate-gt0-2.true
