use Rattle.verdict_text.proofs.Barring.{NoTake}
use Rattle.verdict_text.proofs.takes.taken_at.Given as goal

abbrev pub invariant-loop-at : goal.invariant-loop-at
invariant-loop-at l = NoTake l.state.journal l.own l.send l.copy l.at
