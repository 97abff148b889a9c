use Rattle.std.proofs.Common.{sym, ap, ap₂, ◌∙◌, arith}
use Rattle.picture.specs.Marked.{counted, is_from}
use Rattle.picture.proofs.Marking.{count-more, count-none}
use Rattle.picture.proofs.marked.count_among.Goals as goal

pub loop-place-init : goal.loop-place-init
loop-place-init c = (sym (count-none c.args.labels.now c.args.first c.args.last), omega arith)

pub loop-place-preserved : goal.loop-place-preserved
loop-place-preserved c =
    let it = c.args.labels.now in
    let first = c.args.first in
    let last = c.args.last in
    let more = c.is_from-more.ensures ∙ ap (is_from first last) c.mark_cycle.ensures.value in
    let count = c.counted-count.ensures.value ∙ ap₂ counted more c.loop-place.invariant.0 in
    let most = c.counted-count.ensures.most in
    let before = c.loop-place.invariant.1 in
    (count ∙ sym (count-more it first last c.loop-place.place), omega (arith, most, before))
