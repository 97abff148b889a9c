use Rattle.std.proofs.Common.{◌≡◌, length}
use Rattle.std.specs.List.{flat_map, range_with_len}
use Rattle.response.specs.Response.{lines_with}
use Rattle.response.proofs.pairs.count_pairs.Given as goal

-- The pairs of the aircraft so far were counted.
abbrev pub invariant-loop-a : goal.invariant-loop-a
invariant-loop-a l = l.found ≡ length (flat_map (lines_with l.state.encounter l.state.journal) (range_with_len 0 l.a))
