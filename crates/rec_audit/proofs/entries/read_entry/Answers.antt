use Rattle.std.proofs.Common.{◌∙◌, ◌++◌, ◌∷◌, [], sym, ap}
use Rattle.advisory_report.specs.Cells.{flag}
use Rattle.rec_text.specs.Entries.{entry_fields}
use Rattle.std.specs.List.{join_with_byte}
use Rattle.rec_audit.proofs.Whole.{reads-line}
use Rattle.rec_audit.proofs.entries.read_entry.Goals as goal

pub returns-then-not-is_whole : goal.returns-then-not-is_whole
returns-then-not-is_whole c = λ e fits same. (rw (c.if-not-is_whole.true) at c.before_flag-is_whole.ensures.none) (join_with_byte 44 (entry_fields c.args.count e)) (sym same)

pub returns : goal.returns
returns c =
    let body = c.before_flag-is_whole.result.0.now in
    let line = c.before_flag-is_whole.ensures.whole ∙ ap (λ b. body ++ flag b (10 ∷ [])) c.if-not-is_whole.false in
    reads-line c.args.count body c.args.line.now c.entry_of.result c.requires.1 line (rw (c.of.ensures) at c.entry_of.ensures)
