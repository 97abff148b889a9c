use Rattle.std.proofs.Common.{◌∙◌, ap, arith, sym}
use Rattle.rec_audit.specs.Cursors.{Cursor}
use Rattle.rec_audit.proofs.Spellings.{line-told, stop-second, stop-some}
use Rattle.rec_audit.proofs.part.tell_canonical.Goals as goal

pub unreachable-requires : goal.unreachable-requires
unreachable-requires c = c.requires.other c.take_text.new.lines.left (sym (ap (λ (a : Cursor). a.left) c.again-there.ensures) ∙ c.if-take_text.ensures.lines_are)

pub returns : goal.returns
returns c =
    line-told c.args.lines.now.left c.args.encounter.now c.again-there.result c.take_text.new.lines c.number-line.result c.line_of_text.result c.in-Some.wanted c.canonical_sentence.result (ap (λ (a : Cursor). a.left) c.again-there.ensures)
    (ap (λ (a : Cursor). a.taken) c.again-there.ensures ∙ c.requires.second) c.if-take_text.ensures c.number-line.ensures c.line_of_text.ensures c.in-Some.is c.canonical_sentence.ensures

pub unreachable-requires-in-None : goal.unreachable-requires-in-None
unreachable-requires-in-None c =
    stop-some c.again-there.result c.take_text.new.lines _ c.number-line.result c.line_of_text.result (ap (λ (a : Cursor). a.taken) c.again-there.ensures ∙ c.requires.second) c.if-take_text.ensures c.number-line.ensures c.line_of_text.ensures c.in-None.is
