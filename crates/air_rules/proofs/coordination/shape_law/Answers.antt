use Rattle.air_rules.proofs.coordination.shape_law.Goals as goal
use Rattle.air_rules.proofs.OneShape.{one-shape, shaped-by-views}

pub returns : goal.returns
returns c = record {
  seen = λ air journal sound legal. shaped-by-views air journal sound legal;
  alike = λ one two journal_one journal_two s t alike l m. one-shape one two journal_one journal_two s t alike l m;
}
