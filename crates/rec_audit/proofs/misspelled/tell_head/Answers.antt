use Rattle.std.proofs.Common.{◌∙◌, List, ℕ, ap, slice_get, subst, sym, take}
use Rattle.rec_audit.proofs.Texts.{return-told, without-return}
use Rattle.rec_audit.specs.Explaining.{IsToldBy, TellsOther, TellsShown}
use Rattle.rec_text.specs.Recording.{head_line}
use Rattle.rec_audit.proofs.misspelled.tell_head.Goals as goal

pub returns-then-has_return_in : goal.returns-then-has_return_in
returns-then-has_return_in c =
    let here = slice_get c.args.lines.now.left 0 in
    return-told c.args.line here (TellsOther here head_line) c.sentence_of.result (sym c.has_return_in.ensures ∙ c.if-has_return_in.true) c.sentence_of.ensures

pub returns : goal.returns
returns c =
    let here = slice_get c.args.lines.now.left 0 in
    without-return c.args.line here (TellsOther here head_line) c.tell_other.result (sym c.has_return_in.ensures ∙ c.if-has_return_in.false)
    (subst (λ (x : List ℕ). IsToldBy c.args.line (TellsShown here x) c.tell_other.result) (c.of.ensures ∙ ap (take 240) c.head.ensures) c.tell_other.ensures)
