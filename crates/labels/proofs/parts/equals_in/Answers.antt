use Rattle.labels.specs.Parts.{equals_in}
use Rattle.memchr.proofs.lemmas.ValueLemmas.{IsFirstByte-value}
use Rattle.memchr.specs.Find.{is_byte}
use Rattle.labels.proofs.parts.equals_in.Goals as goal

pub returns-clause-place : goal.returns-clause-place
unfolding equals_in
returns-clause-place c = IsFirstByte-value (is_byte 61) c.args.word.now c.memchr.result c.memchr.ensures
