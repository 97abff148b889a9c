use Rattle.std.proofs.Common.{ℕ, ◌<◌}
use Rattle.std.specs.Prelude.{map}
use Rattle.followed_advice.specs.Keeping.{GoesOn}
use Rattle.followed_advice.proofs.looks.first_leaving.Given as goal

-- The aircraft so far can go on.
abbrev pub invariant-loop-own : goal.invariant-loop-own
invariant-loop-own l = (own : ℕ) → own < l.own → GoesOn l.flown (map (λ row. row.items) l.rows) own l.cycle
