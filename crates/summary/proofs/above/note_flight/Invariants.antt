use Rattle.std.proofs.Common.{◌≡◌}
use Rattle.response.specs.Modelled.{FlightTold}
use Rattle.summary.specs.Kept.{AreNoted}
use Rattle.summary.proofs.above.note_flight.Given as goal

-- The flight was told up to the cycles so far, and its altitudes in them are kept.
abbrev pub invariant-loop-done : goal.invariant-loop-done
invariant-loop-done l = record {
  flight : l.flight ≡ (let f : FlightTold = record { encounter = l.state.encounter; journal = l.state.journal; craft = l.craft; told = l.done } in f);
  noted : AreNoted l.state.encounter l.state.journal l.craft l.done l.list;
}
