use Rattle.std.specs.List.{flat_map, range_with_len}
use Rattle.ra_report.specs.Blocks.{lines_of}
use Rattle.ra_report.proofs.lines.put_cycle.Given as goal

-- The lines of the aircraft so far were put.
abbrev pub invariant-loop-own : goal.invariant-loop-own
invariant-loop-own g l = g.S.LineSink.took l.fn.sink l.sink (flat_map (lines_of l.table.encounter l.table.journal l.cycle) (range_with_len 0 l.own))
