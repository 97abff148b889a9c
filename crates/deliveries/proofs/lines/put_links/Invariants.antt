use Rattle.std.specs.List.{flat_map, range_with_len}
use Rattle.deliveries.specs.Text.{lines_from}
use Rattle.deliveries.proofs.lines.put_links.Given as goal

-- The lines of the aircraft so far were put.
abbrev pub invariant-loop-sender : goal.invariant-loop-sender
invariant-loop-sender g l = g.S.LineSink.took l.fn.sink l.sink (flat_map (lines_from l.deliveries.encounter l.deliveries.journal) (range_with_len 0 l.sender))
