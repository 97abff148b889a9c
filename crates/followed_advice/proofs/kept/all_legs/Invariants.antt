use Rattle.std.proofs.Common.{◌≡◌}
use Rattle.std.specs.Prelude.{map}
use Rattle.std.specs.List.{flat_map, range_with_len}
use Rattle.followed_advice.specs.Keeping.{legs_along}
use Rattle.followed_advice.proofs.kept.all_legs.Given as goal

-- The legs of the aircraft so far.
abbrev pub invariant-loop-own : goal.invariant-loop-own
invariant-loop-own l = l.legs.items ≡ flat_map (legs_along l.encounter l.named (map (λ row. row.items) l.rows)) (range_with_len 0 l.own)
