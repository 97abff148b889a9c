use Rattle.std.proofs.Common.{◌≡◌, ◌+◌, true}
use Rattle.idle_notes.proofs.Ranges.{Gives}
use Rattle.idle_notes.specs.Aircraft.{is_low_in}
use Rattle.sens_table.specs.Run.{above_in}
use Rattle.idle_notes.proofs.aircraft.is_always_low.Given as goal

-- The test holds in each cycle so far, and these are the bounds of the newest one.
abbrev pub invariant-loop-before : goal.invariant-loop-before
invariant-loop-before l = Gives (is_low_in l.encounter l.craft) true 1 (l.before + 1) × (l.above ≡ above_in l.encounter l.craft l.before)
