use Rattle.std.proofs.Common.{◌∙◌, ◌++◌, ◌∷◌, [], ap, sym}
use Rattle.std.specs.List.{join_with_byte}
use Rattle.std.specs.Prelude.{codes}
use Rattle.std.specs.Fmt.{decimal}
use Rattle.advisory_report.specs.Cells.{flag}
use Rattle.rec_audit.proofs.Cutting.{tells-line}
use Rattle.rec_audit.proofs.opening.count_of.Goals as goal

pub returns-then-not-is_whole : goal.returns-then-not-is_whole
returns-then-not-is_whole c = λ n few same. (rw (c.if-not-is_whole.true) at c.before_flag-is_whole.ensures.none) (join_with_byte 44 (codes "journal" ∷ decimal n ∷ [])) (sym same)

pub returns : goal.returns
returns c =
    let body = c.before_flag-is_whole.result.0.now in
    let line = c.before_flag-is_whole.ensures.whole ∙ ap (λ b. body ++ flag b (10 ∷ [])) c.if-not-is_whole.false in
    tells-line body c.args.line.now c.told_in.result line (rw (c.of.ensures) at c.told_in.ensures)
