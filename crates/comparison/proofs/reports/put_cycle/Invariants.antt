use Rattle.std.specs.List.{flat_map, range_with_len}
use Rattle.comparison.specs.Reports.{apart_in}
use Rattle.comparison.proofs.reports.put_cycle.Given as goal

-- The lines of the aircraft so far were put.
abbrev pub invariant-loop-own : goal.invariant-loop-own
invariant-loop-own g l = g.S.LineSink.took l.fn.sink l.sink (flat_map (apart_in l.one l.other l.cycle) (range_with_len 0 l.own))
