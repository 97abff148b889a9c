use Rattle.air_rules.proofs.coordination.settled_law.Goals as goal
use Rattle.air_rules.proofs.PlainLinks.{opposite-on-plain-links}
use Rattle.air_rules.proofs.Running.{has-run-by-sense}
use Rattle.air_rules.proofs.Settling.{opposite-by-take}

pub returns : goal.returns
returns c = record {
  settled = λ air journal sound l. record { by_take = opposite-by-take air journal sound l; on_plain_links = opposite-on-plain-links air journal sound l };
  runs = has-run-by-sense;
}
