use Rattle.std.proofs.Common.{◌-◌}
use Rattle.std.specs.List.{flat_map, range_with_len}
use Rattle.equal_rows.specs.Rows.{rows_at}
use Rattle.picture.specs.Bars.{row_marks}
use Rattle.picture.specs.Shown.{goes_on, is_shown}
use Rattle.picture.proofs.lanes.put_bars.Given as goal

-- The bars of the rows so far were put.
abbrev pub invariant-loop-cycle : goal.invariant-loop-cycle
invariant-loop-cycle g l =
    g.D.Drawing.drew l.fn.drawing l.drawing
    (flat_map (row_marks l.state.encounter l.state.journal l.own l.lane l.address) (flat_map (rows_at (is_shown l.state.journal l.own) (goes_on l.state.journal l.own) l.state.encounter.cycles) (range_with_len 1 (l.cycle - 1))))
