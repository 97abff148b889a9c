use Rattle.std.proofs.Common.{◌∙◌, ap, arith, sym}
use Rattle.report_words.proofs.Order.{place-under, word-at}
use Rattle.report_words.specs.Saying.{place_in_order, text_of}
use Rattle.report_words.proofs.word.Word.parse.Goals as goal

pub returns : goal.returns
returns c = λ word is.
    let under = place-under word in
    let over = c.loop-at-test.false in
    c.loop-at.invariant (place_in_order word) (omega (arith, under, over)) (is ∙ ap text_of (sym (word-at word)))
