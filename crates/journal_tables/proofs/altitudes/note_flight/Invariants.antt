use Rattle.std.proofs.Common.{◌≡◌}
use Rattle.std.specs.List.{list_any, range_with_len}
use Rattle.journal_tables.specs.Noted.{AreNoted}
use Rattle.journal_tables.specs.Places.{advises}
use Rattle.response.specs.Modelled.{FlightTold}
use Rattle.journal_tables.proofs.altitudes.note_flight.Given as goal

-- The altitudes of the aircraft in the cycles so far are kept, and whether one of these cycles had advice.
abbrev pub invariant-loop-done : goal.invariant-loop-done
invariant-loop-done l = record {
  flight : l.flight ≡ (let f : FlightTold = record { encounter = l.state.encounter; journal = l.state.journal; craft = l.craft; told = l.done } in f);
  advised : l.advised ≡ list_any (advises l.state.journal l.craft) (range_with_len 1 l.done);
  noted : AreNoted l.state.encounter l.state.journal l.craft l.done l.list;
}
