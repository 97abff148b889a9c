use Rattle.std.specs.List.{flat_map, range_with_len}
use Rattle.ra_report.specs.Blocks.{lines_in}
use Rattle.ra_report.proofs.lines.TableText.put.Given as goal

-- The lines of the cycles so far were put.
abbrev pub invariant-loop-cycle : goal.invariant-loop-cycle
invariant-loop-cycle g l = g.S.LineSink.took l.fn.sink l.sink (flat_map (lines_in l.self.encounter l.self.journal) (range_with_len 1 l.cycle))
