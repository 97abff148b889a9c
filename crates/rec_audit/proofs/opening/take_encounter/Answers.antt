use Rattle.std.proofs.Common.{◌∙◌, ◌-◌, ap, sym, subst, take, length}
use Rattle.enc_file.specs.Reading.{Says, reading_of}
use Rattle.rec_audit.proofs.Beginning.{part-bytes, part-other, part-read, part-refused, refused-by, without-end}
use Rattle.rec_audit.proofs.opening.take_encounter.Goals as goal

pub returns-then-not-skip_part : goal.returns-then-not-skip_part
returns-then-not-skip_part c = without-end c.args.lines.now c.skip_part.new.lines c.number.result c.requires.second c.if-not-skip_part.ensures c.number.ensures

pub returns-in-Err-Refused : goal.returns-in-Err-Refused
returns-in-Err-Refused c =
    let s = c.if-not-skip_part.ensures in
    let text = part-bytes c.args.lines.now c.skip_part.new.lines c.rest-text.result.now c.rest.result.now s c.rest-text.ensures c.rest.ensures in
    rw (c.in-Err-Refused.field-0-is) (part-refused c.args.lines.now c.skip_part.new.lines s c.in-Err-Refused.refusal
    (ap reading_of (sym text) ∙ refused-by (reading_of (take (length c.rest-text.result.now - length c.rest.result.now) c.rest-text.result.now)) c.in-Err-Refused.field-0 c.in-Err-Refused.refusal c.in-Err-Refused.field-0-is c.in-Err-Refused.ensures.reading))

pub returns-then-not-take_text : goal.returns-then-not-take_text
returns-then-not-take_text c =
    let s = c.if-not-skip_part.ensures in
    let e = c.in-Ok.encounter in
    let text = part-bytes c.args.lines.now c.skip_part.new.lines c.rest-text.result.now c.rest.result.now s c.rest-text.ensures c.rest.ensures in
    part-other c.args.lines.now c.skip_part.new.lines c.take_text.new.lines s e (subst (λ t. Says t e) text c.in-Ok.ensures.reading) (rw (c.again-again.ensures) at c.if-not-take_text.ensures)

pub returns : goal.returns
returns c =
    let s = c.if-not-skip_part.ensures in
    let e = c.in-Ok.encounter in
    let text = part-bytes c.args.lines.now c.skip_part.new.lines c.rest-text.result.now c.rest.result.now s c.rest-text.ensures c.rest.ensures in
    part-read c.args.lines.now c.skip_part.new.lines c.take_text.new.lines s e c.valid_law.ensures c.in-Ok.ensures.inside (subst (λ t. Says t e) text c.in-Ok.ensures.reading) (rw (c.again-again.ensures) at c.if-not-take_text.ensures)
