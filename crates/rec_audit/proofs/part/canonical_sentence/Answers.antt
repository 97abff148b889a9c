use Rattle.std.proofs.Common.{refl}
use Rattle.rec_audit.proofs.part.canonical_sentence.Goals as goal

pub returns : goal.returns
returns c = (c.args.wanted, refl, c.sentence_of.ensures)
