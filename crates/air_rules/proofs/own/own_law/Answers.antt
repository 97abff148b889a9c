use Rattle.air_rules.proofs.own.own_law.Goals as goal
use Rattle.air_rules.proofs.Beginnings.{stays-between}
use Rattle.air_rules.proofs.OwnEntries.{adds-to-own, keeps-others, depends-on-own, leaves-others, completes-by-own}

pub returns : goal.returns
returns c = record {
  adds = adds-to-own;
  keeps = keeps-others;
  between = stays-between;
  depends = depends-on-own;
  leaves = leaves-others;
  completes = completes-by-own;
}
