use Rattle.air_rules.proofs.coordination.priority_law.Goals as goal
use Rattle.air_rules.proofs.Changes.{yields, reverses-once, starts-as-allowed, equal-untold, equal-if-allowed}
use Rattle.air_rules.proofs.Twice.{at-most-two}

pub returns : goal.returns
returns c air journal sound l = record {
  yields = yields air journal l;
  reverses = reverses-once air journal l;
  starts = starts-as-allowed air journal l;
  untold = equal-untold air journal sound l;
  allowed = equal-if-allowed air journal l;
  twice = at-most-two air journal sound l;
}
