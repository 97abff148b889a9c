use Rattle.reasons.proofs.Columned.{choices-agree, columns-agree}
use Rattle.reasons.proofs.laws.columns_law.Goals as goal

pub returns-clause-choice : goal.returns-clause-choice
returns-clause-choice c = choices-agree

pub returns-clause-columns : goal.returns-clause-columns
returns-clause-columns c = columns-agree
