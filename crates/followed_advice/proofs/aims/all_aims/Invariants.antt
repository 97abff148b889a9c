use Rattle.std.proofs.Common.{◌≡◌}
use Rattle.std.specs.Prelude.{map}
use Rattle.std.specs.List.{range_with_len}
use Rattle.followed_advice.specs.Keeping.{aims}
use Rattle.followed_advice.proofs.aims.all_aims.Given as goal

-- The rows of the aircraft so far.
abbrev pub invariant-loop-own : goal.invariant-loop-own
invariant-loop-own l = map (λ row. row.items) l.rows.items ≡ map (aims l.encounter l.named l.state.journal) (range_with_len 0 l.own)
