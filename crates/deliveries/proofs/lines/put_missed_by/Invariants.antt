use Rattle.std.specs.List.{flat_map, range_with_len}
use Rattle.deliveries.specs.Text.{missed_lines}
use Rattle.deliveries.proofs.lines.put_missed_by.Given as goal

-- The lines of the aircraft so far were put.
abbrev pub invariant-loop-target : goal.invariant-loop-target
invariant-loop-target g l = g.S.LineSink.took l.fn.sink l.sink (flat_map (missed_lines l.encounter l.own) (range_with_len 0 l.target))
