use Rattle.std.proofs.Common.{◌∙◌, ap, sym}
use Rattle.std.specs.Prelude.{slice_get}
use Rattle.acas_lines.specs.Split.{lines_of}
use Rattle.rec_audit.proofs.Texts.{return-told, some-line, without-return}
use Rattle.rec_audit.specs.Explaining.{TellsReport, has_return_in, line_at}
use Rattle.rec_audit.specs.declared.verdict.Reason.TheVariants.{Report}
use Rattle.rec_audit.proofs.explaining.tell_end.Goals as goal

pub lines_from-lines-requires-clause-some : goal.lines_from-lines-requires-clause-some
lines_from-lines-requires-clause-some c = some-line (lines_of c.args.bytes.now) c.args.line Report c.requires.wrong

pub returns-then-has_return_in : goal.returns-then-has_return_in
returns-then-has_return_in c =
    return-told c.args.line (line_at c.args.bytes.now c.args.line) (TellsReport c.args.bytes.now c.args.line) c.sentence_of.result (ap (λ l. has_return_in (slice_get l 0)) (sym c.lines_from-lines.ensures) ∙ sym c.has_return_in.ensures ∙ c.if-has_return_in.true)
    c.sentence_of.ensures

pub returns : goal.returns
returns c =
    without-return c.args.line (line_at c.args.bytes.now c.args.line) (TellsReport c.args.bytes.now c.args.line) c.in_ok-told.told (ap (λ l. has_return_in (slice_get l 0)) (sym c.lines_from-lines.ensures) ∙ sym c.has_return_in.ensures ∙ c.if-has_return_in.false)
    c.in_ok-told.ensures
