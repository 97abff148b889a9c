use Rattle.std.proofs.Common.{◌≡◌, ◌+◌}
use Rattle.std.specs.Prelude.{map}
use Rattle.std.specs.List.{range_with_len}
use Rattle.picture.specs.Modelled.{modelled_point}
use Rattle.response.specs.Modelled.{FlightTold}
use Rattle.picture.proofs.modelled.put_points.Given as goal

-- The flight was told so far, and the points of these cycles were passed.
abbrev pub invariant-loop-step : goal.invariant-loop-step
invariant-loop-step g l = record {
  flight : l.flight ≡ (let f : FlightTold = record { encounter = l.state.encounter; journal = l.state.journal; craft = l.own; told = l.passed + l.step } in f);
  drawn : g.D.Drawing.passed l.fn.drawing l.drawing (map (modelled_point l.axis l.state.encounter l.state.journal l.own) (range_with_len (l.passed + 1) l.step));
}
