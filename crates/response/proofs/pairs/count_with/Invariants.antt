use Rattle.std.proofs.Common.{◌≡◌, ◌+◌, ◌-◌, length}
use Rattle.std.specs.List.{flat_map, range_with_len}
use Rattle.response.specs.Response.{pair_lines}
use Rattle.response.proofs.pairs.count_with.Given as goal

-- The pairs with the aircraft so far were counted.
abbrev pub invariant-loop-b : goal.invariant-loop-b
invariant-loop-b l = l.found ≡ length (flat_map (pair_lines l.state.encounter l.state.journal l.a) (range_with_len (l.a + 1) (l.b - (l.a + 1))))
