use Rattle.std.proofs.Common.{◌∙◌, arith, sym}
use Rattle.rec_audit.proofs.Beginning.{refused-by}
use Rattle.rec_audit.proofs.Spellings.{come-other, part-whole, whole-long}
use Rattle.enc_file.specs.Reading.{reading_of}
use Rattle.rec_audit.specs.Explaining.{marked, other_text, refused_text}
use Rattle.acas_lines.specs.Lines.{joined}
use Rattle.rec_audit.proofs.part.tell_text.Goals as goal

pub returns-then-is_marked : goal.returns-then-is_marked
returns-then-is_marked c = marked c.if-is_marked.ensures c.sentence_of.ensures

pub tell_canonical-requires-clause-other : goal.tell_canonical-requires-clause-other
tell_canonical-requires-clause-other c = come-other c.args.lines.now.left c.args.text.now c.in-Ok.encounter c.requires.is_part c.requires.wrong c.in-Ok.ensures.reading

pub returns-in-Ok : goal.returns-in-Ok
returns-in-Ok c = other_text c.in-Ok.encounter c.if-is_marked.ensures c.in-Ok.ensures.reading c.tell_canonical.ensures

pub tell_refused-requires-clause-whole : goal.tell_refused-requires-clause-whole
tell_refused-requires-clause-whole c = (joined c.requires.is_part.rest, part-whole c.args.bytes.now c.args.text.now c.args.lines.now.left c.requires.headed c.requires.is_part)

pub tell_refused-requires-clause-refused : goal.tell_refused-requires-clause-refused
tell_refused-requires-clause-refused c = refused-by (reading_of c.args.text.now) c.in-Err-Refused.field-0 c.in-Err-Refused.refusal c.in-Err-Refused.field-0-is c.in-Err-Refused.ensures.reading

pub returns-in_ok-told-in-Err-Refused : goal.returns-in_ok-told-in-Err-Refused
returns-in_ok-told-in-Err-Refused c =
    refused_text c.in-Err-Refused.refusal c.if-is_marked.ensures (refused-by (reading_of c.args.text.now) c.in-Err-Refused.field-0 c.in-Err-Refused.refusal c.in-Err-Refused.field-0-is c.in-Err-Refused.ensures.reading) c.in_ok-told-in-Err-Refused.ensures

pub read-requires : goal.read-requires
read-requires c =
    let whole = part-whole c.args.bytes.now c.args.text.now c.args.lines.now.left c.requires.headed c.requires.is_part in
    omega (arith, c.requires.small, whole-long c.args.bytes.now c.args.text.now (joined c.requires.is_part.rest) whole)
