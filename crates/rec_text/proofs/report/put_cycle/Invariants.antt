use Rattle.std.proofs.Common.{◌≡◌, ◌-◌, ◌<◌, ◌≤◌, ℕ, length}
use Rattle.std.specs.List.{flat_map, range_with_len}
use Rattle.std.specs.Prelude.{slice_index_or}
use Rattle.acas_base.specs.declared.TheConstants.{CRAFTS}
use Rattle.advisory_report.specs.Composite.{clear}
use Rattle.rec_text.specs.Report.{report_of, shown_in}
use Rattle.rec_text.proofs.report.put_cycle.Given as goal

-- The lines of the aircraft so far were put. The composites of these are what they show after the cycle, and those of
-- the others are what they showed before it.
abbrev pub invariant-loop-own : goal.invariant-loop-own
invariant-loop-own g l = record {
  lines : g.S.LineSink.took l.fn.sink l.sink (flat_map (report_of l.state.encounter l.state.journal l.cycle) (range_with_len 0 l.own));
  size : length l.composites ≡ CRAFTS;
  after : (own : ℕ) → own < l.own → slice_index_or l.composites own clear ≡ shown_in l.state.journal l.cycle own;
  before : (own : ℕ) → l.own ≤ own → own < length l.state.encounter.crafts → slice_index_or l.composites own clear ≡ shown_in l.state.journal (l.cycle - 1) own;
}
