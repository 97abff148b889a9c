use Rattle.std.proofs.Common.{◌-◌}
use Rattle.std.specs.List.{flat_map, range_with_len}
use Rattle.equal_rows.specs.Rows.{rows_at}
use Rattle.seconds_panel.specs.Lines.{row_marks}
use Rattle.seconds_panel.specs.Seconds.{goes_on, is_told}
use Rattle.seconds_panel.proofs.lines.put_series.Given as goal

-- The rows that begin in the cycles so far were put.
abbrev pub invariant-loop-cycle : goal.invariant-loop-cycle
invariant-loop-cycle g l =
    g.D.Drawing.drew l.fn.drawing l.drawing
    (flat_map (row_marks l.top l.seconds.encounter l.seconds.pair l.names.own.now l.names.other.now l.series)
    (flat_map (rows_at (is_told l.seconds.encounter l.seconds.pair l.series) (goes_on l.seconds.encounter l.seconds.pair l.series) l.seconds.encounter.cycles) (range_with_len 1 (l.cycle - 1))))
