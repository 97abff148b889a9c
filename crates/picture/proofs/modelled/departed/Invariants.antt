use Rattle.std.proofs.Common.{◌≡◌}
use Rattle.picture.specs.Modelled.{departed}
use Rattle.response.specs.Modelled.{FlightTold}
use Rattle.picture.proofs.modelled.departed.Given as goal

-- The flight was told up to the cycles so far, and where it departs in them.
abbrev pub invariant-loop-done : goal.invariant-loop-done
invariant-loop-done l = record {
  flight : l.flight ≡ (let f : FlightTold = record { encounter = l.state.encounter; journal = l.state.journal; craft = l.own; told = l.done } in f);
  first : l.first ≡ departed l.state.encounter l.state.journal l.own l.done;
}
