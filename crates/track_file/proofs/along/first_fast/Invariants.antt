use Rattle.std.proofs.Common.{◌<◌, ℕ, get_or, Vec, Global}
use Rattle.flight.specs.declared.place.Place.{Place}
use Rattle.leg_rows.specs.Rows.{AreFlyable}
use Rattle.track_file.proofs.along.first_fast.Given as goal

-- Legs can lead through the rows so far.
abbrev pub invariant-loop-craft : goal.invariant-loop-craft
invariant-loop-craft l = (k : ℕ) (d : Vec Place Global) → k < l.craft → AreFlyable (get_or l.rows k d).items
