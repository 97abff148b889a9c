use Rattle.std.proofs.lemmas.List.{take_rest}
use Rattle.pieces.proofs.Rows.{cut-all, later}
use Rattle.pieces.proofs.cutting.Pieces.of.Goals as goal

pub loop-size-preserved : goal.loop-size-preserved
loop-size-preserved c =
    let text = c.args.text.items in
    let inv = c.loop-size.invariant in
    let size = rw c.deref.ensures.value at c.in-Some.ensures in
    let next = later text c.loop-size.ranges.items c.loop-size.start c.in-Some.size inv.within inv.few inv.inside inv.cut size in
    rw c.in_ok-push.ensures.items (record { within = next.within; few = next.few; inside = next.inside; cut = next.cut })

pub returns : goal.returns
returns c =
    let text = c.args.text.items in
    let blank = rw (c.deref.ensures.value, take_rest text c.loop-size.start) at c.in_default.ensures in
    record { cut = cut-all text c.loop-size.ranges.items c.loop-size.start blank c.loop-size.invariant.cut }
