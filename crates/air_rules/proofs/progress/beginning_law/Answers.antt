use Rattle.air_rules.proofs.progress.beginning_law.Goals as goal
use Rattle.air_rules.proofs.Beginnings.{begins-on, begins-nested}
use Rattle.air_rules.proofs.Legal.{legal-begins}

pub returns : goal.returns
returns c = record {
  legal = λ air earlier journal b l. legal-begins air b l;
  joined = λ first second journal b a. begins-on b a;
  nested = λ first second journal a b h. begins-nested first second journal a b h;
}
