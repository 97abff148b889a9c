use Rattle.air_rules.proofs.example.example_law.Goals as goal
use Rattle.std.proofs.Common.{refl}
use Rattle.air_rules.proofs.ExampleSteps.{example-serial, example-sound, past-a-copy-refused, premises-met, twice-legal, watched-serial, wrong-order-refused, wrong-sense-refused, wrong-word-refused}
use Rattle.air_rules.proofs.InOrder.{in-order-legal, serial-complete}
use Rattle.air_rules.specs.Example.{example, worked}

pub returns : goal.returns
returns c = record {
  sound = example-sound;
  serial = example-serial;
  legal = in-order-legal example worked example-sound example-serial.in_order;
  complete = serial-complete example worked example-sound example-serial;
  premises = premises-met;
  sense = wrong-sense-refused;
  word = wrong-word-refused;
  order = wrong-order-refused;
  past = past-a-copy-refused;
  twice = twice-legal;
  in_force = record { kept = refl; spoilt = refl; binds = refl; lapses = refl; by_own_commits = refl; not_by_others = refl };
  without_messages = watched-serial;
}
