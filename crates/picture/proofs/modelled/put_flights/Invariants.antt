use Rattle.std.specs.List.{flat_map, range_with_len}
use Rattle.picture.specs.Modelled.{modelled_marks}
use Rattle.picture.proofs.modelled.put_flights.Given as goal

-- The flights of the aircraft so far were put.
abbrev pub invariant-loop-own : goal.invariant-loop-own
invariant-loop-own g l = g.D.Drawing.drew l.fn.drawing l.drawing (flat_map (modelled_marks l.axis l.state.encounter l.state.journal) (range_with_len 0 l.own))
