use Rattle.std.specs.List.{flat_map, range_with_len}
use Rattle.deliveries.specs.Text.{link_lines}
use Rattle.deliveries.proofs.lines.put_from.Given as goal

-- The lines of the aircraft so far were put.
abbrev pub invariant-loop-receiver : goal.invariant-loop-receiver
invariant-loop-receiver g l = g.S.LineSink.took l.fn.sink l.sink (flat_map (link_lines l.deliveries.encounter l.deliveries.journal l.sender) (range_with_len 0 l.receiver))
