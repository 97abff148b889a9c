use Rattle.std.proofs.Common.{◌-◌}
use Rattle.std.specs.List.{flat_map, range_with_len}
use Rattle.equal_rows.specs.Rows.{rows_at}
use Rattle.picture.specs.Bands.{band_of_row}
use Rattle.picture.specs.Shown.{goes_on, is_shown}
use Rattle.picture.proofs.bands.put_bands_of.Given as goal

-- The bands of the rows so far were put.
abbrev pub invariant-loop-cycle : goal.invariant-loop-cycle
invariant-loop-cycle g l =
    g.D.Drawing.drew l.fn.drawing l.drawing
    (flat_map (band_of_row l.course.axis l.state.encounter l.state.journal l.course.own l.address) (flat_map (rows_at (is_shown l.state.journal l.course.own) (goes_on l.state.journal l.course.own) l.state.encounter.cycles) (range_with_len 1 (l.cycle - 1))))
