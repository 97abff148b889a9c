use Rattle.word_text.proofs.Distinct.{same-word}
use Rattle.word_text.proofs.Telling.{block-told, message-told, none-told}
use Rattle.word_text.proofs.laws.told_law.Goals as goal

pub returns-clause-block : goal.returns-clause-block
returns-clause-block c = block-told

pub returns-clause-message : goal.returns-clause-message
returns-clause-message c = message-told

pub returns-clause-none : goal.returns-clause-none
returns-clause-none c = none-told

pub returns-clause-same : goal.returns-clause-same
returns-clause-same c = same-word
