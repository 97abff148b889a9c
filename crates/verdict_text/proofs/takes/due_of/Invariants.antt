use Rattle.std.proofs.Common.{take}
use Rattle.verdict_text.specs.Searches.{NoneWaits}
use Rattle.verdict_text.proofs.takes.due_of.Given as goal

abbrev pub invariant-loop-waiting : goal.invariant-loop-waiting
invariant-loop-waiting l = NoneWaits (take l.waiting-index l.queue) l.send l.copy
