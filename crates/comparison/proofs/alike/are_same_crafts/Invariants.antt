use Rattle.std.proofs.Common.{◌≡◌, ◌<◌, ℕ, option_map}
use Rattle.std.specs.Prelude.{slice_get}
use Rattle.comparison.specs.Encounters.{without_ceiling}
use Rattle.comparison.proofs.alike.are_same_crafts.Given as goal

-- The aircraft so far are the same.
abbrev pub invariant-loop-place : goal.invariant-loop-place
invariant-loop-place l = (k : ℕ) → k < l.place → option_map without_ceiling (slice_get l.one k) ≡ option_map without_ceiling (slice_get l.other k)
