use Rattle.std.proofs.Common.{true}
use Rattle.idle_notes.proofs.Ranges.{Gives}
use Rattle.idle_notes.specs.Aircraft.{is_far_from}
use Rattle.idle_notes.proofs.aircraft.is_far_from_all.Given as goal

-- It is far from the others so far.
abbrev pub invariant-loop-other : goal.invariant-loop-other
invariant-loop-other l = Gives (is_far_from l.encounter l.craft) true 0 l.other
