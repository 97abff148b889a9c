use Rattle.std.proofs.Common.{refl}
use Rattle.rec_audit.proofs.spelled.other_sentence.Goals as goal

pub returns : goal.returns
returns c = (c.args.wanted, refl, c.sentence_of.ensures)
