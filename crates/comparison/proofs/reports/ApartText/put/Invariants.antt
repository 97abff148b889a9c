use Rattle.std.specs.List.{flat_map, range_with_len}
use Rattle.comparison.specs.Reports.{apart_in_cycle}
use Rattle.comparison.proofs.reports.ApartText.put.Given as goal

-- The lines of the cycles so far were put.
abbrev pub invariant-loop-before : goal.invariant-loop-before
invariant-loop-before g l = g.S.LineSink.took l.fn.sink l.sink (flat_map (apart_in_cycle l.self.one.now l.self.other.now) (range_with_len 1 l.before))
