use Rattle.std.proofs.Common.{◌+◌, false}
use Rattle.idle_notes.proofs.Ranges.{Gives}
use Rattle.idle_notes.specs.Aircraft.{is_below_ground}
use Rattle.idle_notes.proofs.aircraft.first_below.Given as goal

-- It isn't below the ground in the cycles so far.
abbrev pub invariant-loop-before : goal.invariant-loop-before
invariant-loop-before l = Gives (is_below_ground l.encounter l.craft) false 1 (l.before + 1)
