use Rattle.std.proofs.Common.{map}
use Rattle.std.specs.List.{range_with_len}
use Rattle.acas_top.specs.Varying.{line_at}
use Rattle.acas_top.proofs.varied.put_changes.Given as goal

-- The lines so far were put.
abbrev pub invariant-loop-place : goal.invariant-loop-place
invariant-loop-place g l = g.S.LineSink.took l.fn.sink l.sink (map (line_at l.crafts l.changes l.list) (range_with_len 0 l.place))
