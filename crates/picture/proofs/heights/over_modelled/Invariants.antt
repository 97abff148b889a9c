use Rattle.std.proofs.Common.{◌≡◌, ◌≤◌, unsigned_abs}
use Rattle.picture.specs.Heights.{modelled_in, over_flight}
use Rattle.response.specs.Modelled.{FlightTold}
use Rattle.picture.proofs.heights.over_modelled.Given as goal

-- The flight was told up to the cycles so far, with its altitudes in them.
abbrev pub invariant-loop-done : goal.invariant-loop-done
invariant-loop-done l = record {
  flight : l.flight ≡ (let f : FlightTold = record { encounter = l.state.encounter; journal = l.state.journal; craft = l.own; told = l.done } in f);
  span : l.span ≡ over_flight (modelled_in l.state.encounter l.state.journal l.own) l.fn.before l.done;
  low : unsigned_abs l.span.low ≤ 32000000;
  high : unsigned_abs l.span.high ≤ 32000000;
}
