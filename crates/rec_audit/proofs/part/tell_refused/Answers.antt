use Rattle.std.proofs.Common.{◌∙◌, ap}
use Rattle.enc_file.specs.Reading.{reading_of}
use Rattle.rec_audit.proofs.Spellings.{cut-bytes, same-reading}
use Rattle.rec_audit.proofs.part.tell_refused.Goals as goal

pub explained-requires-clause-refused : goal.explained-requires-clause-refused
explained-requires-clause-refused c =
    ap reading_of (cut-bytes c.args.bytes.now c.args.text.now c.requires.whole.0 c.requires.whole.1) ∙ same-reading c.args.text.now c.records_law.ensures c.requires.plain ∙ c.requires.refused

pub returns : goal.returns
returns c = rw (cut-bytes c.args.bytes.now c.args.text.now c.requires.whole.0 c.requires.whole.1) at c.explained.ensures
