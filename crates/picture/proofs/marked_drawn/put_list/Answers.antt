use Rattle.std.proofs.Common.{◌≡◌, ℕ, length, sym, subst, arith}
use Rattle.std.specs.List.{flat_map}
use Rattle.picture.specs.Marked.{marked_among}
use Rattle.picture.specs.MarkedDrawn.{row_of}
use Rattle.picture.proofs.Marking.{drawn-more, drawn-none}
use Rattle.picture.proofs.marked_drawn.put_list.Goals as goal

pub loop-place-init : goal.loop-place-init
loop-place-init g c =
    let f = row_of c.args.top c.args.labels.now c.args.axis.cycles in
    subst (g.D.Drawing.drew c.args.drawing.now c.args.drawing.now) (sym (drawn-none f c.args.labels.now c.args.axis.cycles)) (g.met.D.Drawing.nothing c.args.drawing.now)

pub loop-place-preserved : goal.loop-place-preserved
loop-place-preserved g c =
    let f = row_of c.args.top c.args.labels.now c.args.axis.cycles in
    subst (g.D.Drawing.drew c.args.drawing.now c.put_row.new.drawing) (drawn-more f c.args.labels.now c.args.axis.cycles c.loop-place.place)
    (g.met.D.Drawing.then _ _ _ _ _ c.loop-place.invariant c.put_row.ensures)

pub returns : goal.returns
returns g c =
    let f = row_of c.args.top c.args.labels.now c.args.axis.cycles in
    let count = c.marks-place-end.ensures.value in
    let all : c.loop-place.place ≡ length c.args.labels.now.marks = (let end = c.loop-place-test.false in let most = c.loop-place.auto.place-end in omega arith) in
    subst (λ (n : ℕ). g.D.Drawing.drew c.args.drawing.now c.loop-place.drawing (flat_map f (marked_among c.args.labels.now c.args.axis.cycles n))) all c.loop-place.invariant
