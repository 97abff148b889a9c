use Rattle.std.proofs.Common.{◌+◌, ◌-◌}
use Rattle.std.specs.List.{flat_map, range_with_len}
use Rattle.response.specs.Response.{pair_lines}
use Rattle.response.proofs.pairs.put_lines_with.Given as goal

-- The lines with the aircraft so far were put.
abbrev pub invariant-loop-b : goal.invariant-loop-b
invariant-loop-b g l = g.S.LineSink.took l.fn.sink l.sink (flat_map (pair_lines l.state.encounter l.state.journal l.a) (range_with_len (l.a + 1) (l.b - (l.a + 1))))
