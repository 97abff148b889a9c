use Rattle.std.proofs.Common.{◌<◌, ◌||◌, ap, ap₂, arith, length, set, subst, sym, ◌∙◌}
use Rattle.std.specs.Prelude.{option_copied}
use Rattle.possibilities.proofs.RunAdded.{one-said}
use Rattle.possibilities.specs.Rows.{words_at}
use Rattle.possibilities.specs.Saying.{has}
use Rattle.possibilities.specs.Shown.{AddsSaid}
use Rattle.report_words.specs.Saying.{is_same}
use Rattle.report_words.specs.declared.word.Word.{Word}
use Rattle.possibilities.proofs.showing.add_said.Goals as goal

pub returns-in-Some : goal.returns-in-Some
returns-in-Some c =
    let row = c.args.row.now in
    let at = c.from-at.ensures in
    let less : c.args.cycle < length row = omega (arith, c.told-row, c.requires) in
    subst (λ n. AddsSaid c.args.run.now.journal c.args.own c.args.cycle row (set row n c.with.result)) (sym at)
    (one-said c.args.run.now.journal c.args.own c.args.cycle row c.in-Some.cells.now c.with.result (sym c.cells.ensures ∙ ap option_copied c.in-Some.is) less
    (λ it. c.with.ensures.has it ∙ ap₂ (λ (word : Word) n. is_same word it || has (words_at row n) it) c.of.ensures at))
