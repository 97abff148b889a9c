use Rattle.std.specs.List.{flat_map, range_with_len}
use Rattle.seconds_panel.specs.Panel.{second_tick}
use Rattle.seconds_panel.proofs.panel.put_second_ticks.Given as goal

-- The ticks with the numbers so far were put.
abbrev pub invariant-loop-number : goal.invariant-loop-number
invariant-loop-number g l = g.D.Drawing.drew l.fn.drawing l.drawing (flat_map (second_tick l.top) (range_with_len 0 l.number))
