use Rattle.std.specs.List.{flat_map, range_with_len}
use Rattle.deliveries.specs.Text.{missed_by}
use Rattle.deliveries.proofs.lines.put_all_missed.Given as goal

-- The lines of the aircraft so far were put.
abbrev pub invariant-loop-own : goal.invariant-loop-own
invariant-loop-own g l = g.S.LineSink.took l.fn.sink l.sink (flat_map (missed_by l.encounter) (range_with_len 0 l.own))
