use Rattle.std.proofs.Common.{◌-◌}
use Rattle.std.specs.List.{flat_map, range_with_len}
use Rattle.page_marks.specs.Ticks.{time_tick}
use Rattle.page_marks.proofs.ticks.put_time_ticks.Given as goal

-- The ticks of the cycles so far were put.
abbrev pub invariant-loop-cycle : goal.invariant-loop-cycle
invariant-loop-cycle g l = g.D.Drawing.drew l.fn.drawing l.drawing (flat_map (time_tick l.axis.cycles l.axis.start l.place) (range_with_len 1 (l.cycle - 1)))
