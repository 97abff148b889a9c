use Rattle.std.specs.List.{flat_map, range_with_len}
use Rattle.pair_panels.specs.Panel.{value_tick}
use Rattle.pair_panels.proofs.panel.put_value_ticks.Given as goal

-- The ticks with the numbers so far were put.
abbrev pub invariant-loop-number : goal.invariant-loop-number
invariant-loop-number g l = g.D.Drawing.drew l.fn.drawing l.drawing (flat_map (value_tick l.top l.distance l.ticks) (range_with_len 0 l.number))
