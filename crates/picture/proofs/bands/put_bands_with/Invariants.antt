use Rattle.std.specs.List.{flat_map, range_with_len}
use Rattle.picture.specs.Bands.{craft_bands}
use Rattle.picture.proofs.bands.put_bands_with.Given as goal

-- The bands of the aircraft so far were put.
abbrev pub invariant-loop-own : goal.invariant-loop-own
invariant-loop-own g l = g.D.Drawing.drew l.fn.drawing l.drawing (flat_map (craft_bands l.axis l.state.encounter l.state.journal) (range_with_len 0 l.own))
