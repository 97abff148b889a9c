use Rattle.rec_audit.proofs.Texts.{none-more}
use Rattle.rec_audit.proofs.closing.tell_closing.Goals as goal

pub returns-in-None : goal.returns-in-None
returns-in-None c = none-more c.args.line _ _ c.sentence_of.result (let is = c.in-None.ensures in is) c.sentence_of.ensures
