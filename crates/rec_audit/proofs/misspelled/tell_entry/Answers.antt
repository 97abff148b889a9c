use Rattle.std.proofs.Common.{◌≡◌, ◌∙◌, ap, arith, length, refl, slice_get, sym}
use Rattle.acas_base.specs.Encounter.{Parts}
use Rattle.acas_lines.specs.Split.{lines_of}
use Rattle.rec_audit.proofs.Spellings.{entry-there, entry-told, next-unspelled}
use Rattle.rec_audit.proofs.Texts.{return-told, some-line, without-return}
use Rattle.rec_audit.specs.Explaining.{TellsSpelledEntry, has_return_in, line_at, of_entry}
use Rattle.rec_audit.specs.declared.verdict.Reason.TheVariants.{Spelling}
use Rattle.rec_audit.proofs.misspelled.tell_entry.Goals as goal

pub lines_from-lines-requires-clause-some : goal.lines_from-lines-requires-clause-some
lines_from-lines-requires-clause-some c = some-line (lines_of c.args.bytes.now) c.args.line Spelling c.requires.wrong

pub returns-then-has_return_in : goal.returns-then-has_return_in
returns-then-has_return_in c =
    of_entry (return-told c.args.line (line_at c.args.bytes.now c.args.line) (TellsSpelledEntry c.args.bytes.now c.args.line) c.sentence_of.result (ap (λ l. has_return_in (slice_get l 0)) (sym c.lines_from-lines.ensures) ∙ sym c.has_return_in.ensures ∙ c.if-has_return_in.true)
    c.sentence_of.ensures)

pub overflow_sub-entries : goal.overflow_sub-entries
overflow_sub-entries c =
    let o = c.requires.opened in
    let at = entry-there c.args.opened.now.encounter c.args.opened.now.count c.args.line (lines_of c.args.bytes.now) c.args.opened.now.lines.left Spelling c.canonical_text_law.ensures refl o.opens c.requires.wrong in
    omega (arith, at.1, o.first, c.number.ensures)

pub tell_entry_line-requires-clause-unspelled : goal.tell_entry_line-requires-clause-unspelled
tell_entry_line-requires-clause-unspelled c =
    let o = c.requires.opened in
    next-unspelled c.args.bytes.now c.args.opened.now.encounter c.args.opened.now.count c.args.line (length c.crafts.result.now) c.args.opened.now.lines.left c.lines_from-lines.result.left c.requires.small c.canonical_text_law.ensures o.opens c.requires.wrong
    c.lines_from-lines.ensures (ap length c.crafts.ensures.value)

pub returns : goal.returns
returns c =
    let o = c.requires.opened in
    let at = entry-there c.args.opened.now.encounter c.args.opened.now.count c.args.line (lines_of c.args.bytes.now) c.args.opened.now.lines.left Spelling c.canonical_text_law.ensures refl o.opens c.requires.wrong in
    of_entry (without-return c.args.line (line_at c.args.bytes.now c.args.line) (TellsSpelledEntry c.args.bytes.now c.args.line) c.tell_entry_line.result
    (ap (λ l. has_return_in (slice_get l 0)) (sym c.lines_from-lines.ensures) ∙ sym c.has_return_in.ensures ∙ c.if-has_return_in.false)
    (entry-told c.args.bytes.now c.args.line c.args.opened.now.encounter c.args.opened.now.count c.args.opened.now.lines.left _ _ _ c.tell_entry_line.result o.opens (omega (arith, at.1, o.first, c.number.ensures)) (ap (λ l. slice_get l 0) c.lines_from-lines.ensures)
    (ap length c.crafts.ensures.value) c.tell_entry_line.ensures))
