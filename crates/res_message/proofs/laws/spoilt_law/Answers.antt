use Rattle.std.proofs.Common.{sym, ◌≡◌}
use Rattle.res_message.specs.Words.{word_of, flip_word}
use Rattle.res_message.proofs.Distance.{distance}
use Rattle.res_message.proofs.Fields.{is-read}
use Rattle.res_message.proofs.laws.spoilt_law.Goals as goal

pub returns : goal.returns
returns c = λ m mask a small few. is-read (flip_word (word_of m) mask) (λ n. n ≡ m) (λ n b e. distance m n mask a b small few (sym e))
