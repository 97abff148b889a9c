use Rattle.std.proofs.Common.{◌≡◌, ◌≤◌, ◌++◌, [], drop, length, vec_capacity}
use Rattle.air_turn.specs.Rule.{fresh, knowledge}
use Rattle.air_turn.specs.Seats.{first_seats}
use Rattle.air_turn.specs.declared.view.Stage.TheVariants.{Idle}
use Rattle.air_turn.proofs.air.Air.seat_all.Given as goal

-- Those who have a seat, and those from here on, are all; the first place has the claims of the others.
abbrev pub invariant-loop-i : goal.invariant-loop-i
invariant-loop-i l =
    let e = l.about.value.encounter in
    let journal = l.about.value.journal in
    record {
      table : l.place.table_id ≡ l.self.table;
      me : l.place.me ≡ (knowledge e Idle (fresh journal (drop l.i l.owns)) [], []);
      seats : l.seats.items ++ first_seats l.self.table e journal (drop l.i l.owns) ≡ first_seats l.self.table e journal l.owns;
      count : length l.seats.items ≡ l.i;
      room : length l.owns ≤ vec_capacity l.seats;
    }
