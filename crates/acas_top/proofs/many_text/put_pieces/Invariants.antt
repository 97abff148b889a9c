use Rattle.std.proofs.Common.{map}
use Rattle.std.specs.List.{range_with_len}
use Rattle.acas_top.specs.Many.{piece_line_at}
use Rattle.acas_top.proofs.many_text.put_pieces.Given as goal

-- The lines so far were put.
abbrev pub invariant-loop-place : goal.invariant-loop-place
invariant-loop-place g l = g.S.LineSink.took l.fn.sink l.sink (map (piece_line_at l.list) (range_with_len 0 l.place))
