use Rattle.res_message.specs.Words.{word_of}
use Rattle.res_message.proofs.Fields.{is-word, reads}
use Rattle.res_message.proofs.laws.read_law.Goals as goal

pub returns-clause-read : goal.returns-clause-read
returns-clause-read c = λ m a. reads m (word_of m) (is-word m a)
