use Rattle.std.proofs.Common.{◌∙◌, slice_get, sym}
use Rattle.rec_audit.proofs.Texts.{return-told, without-return}
use Rattle.rec_audit.specs.Explaining.{TellsCount}
use Rattle.rec_audit.proofs.misspelled.tell_count.Goals as goal

pub returns-then-has_return_in : goal.returns-then-has_return_in
returns-then-has_return_in c =
    let here = slice_get c.args.lines.now.left 0 in
    return-told c.args.line here (TellsCount here) c.sentence_of.result (sym c.has_return_in.ensures ∙ c.if-has_return_in.true) c.sentence_of.ensures

pub returns : goal.returns
returns c =
    let here = slice_get c.args.lines.now.left 0 in
    without-return c.args.line here (TellsCount here) c.tell_no_count.result (sym c.has_return_in.ensures ∙ c.if-has_return_in.false) c.tell_no_count.ensures
