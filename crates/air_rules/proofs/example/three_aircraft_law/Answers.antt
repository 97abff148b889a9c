use Rattle.air_rules.proofs.example.three_aircraft_law.Goals as goal
use Rattle.std.proofs.Common.{refl, arith}
use Rattle.air_rules.proofs.InOrder.{in-order-legal, serial-complete}
use Rattle.air_rules.proofs.ThreeAircraftSteps.{ahead-legal, complete-once-sent, older-last-legal, refuses-others, three-serial, three-sound}
use Rattle.air_rules.specs.ThreeAircraft.{three, worked}

pub returns : goal.returns
returns c = record {
  sound = three-sound;
  gives_way = record { apart = λ e. omega (arith, e); rank = refl };
  serial = three-serial;
  legal = in-order-legal three worked three-sound three-serial.in_order;
  complete = serial-complete three worked three-sound three-serial;
  ahead = ahead-legal;
  taken = refl;
  older_last = older-last-legal;
  older_taken = refl;
  refused = refuses-others;
  once_sent = complete-once-sent;
}
