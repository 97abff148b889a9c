use Rattle.std.proofs.Common.{length}
use Rattle.std.specs.List.{flat_map, range_with_len}
use Rattle.rec_text.specs.Report.{AreShown, report_in}
use Rattle.rec_text.proofs.report.put_report.Given as goal

-- The lines of the cycles so far were put, and this is what the aircraft show after them.
abbrev pub invariant-loop-cycle : goal.invariant-loop-cycle
invariant-loop-cycle g l = record {
  lines : g.S.LineSink.took l.fn.sink l.sink (flat_map (report_in l.state.encounter l.state.journal) (range_with_len 1 l.cycle));
  shown : AreShown l.state.journal l.cycle (length l.state.encounter.crafts) l.composites;
}
