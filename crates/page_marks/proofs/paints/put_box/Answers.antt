use Rattle.page_marks.specs.Paints.{box_marks}
use Rattle.page_marks.proofs.paints.put_box.Goals as goal

pub returns : goal.returns
unfolding box_marks
returns g c =
    let one = rw c.box_paint.ensures at c.figure.ensures in
    g.met.D.Drawing.then _ _ _ _ _ one c.put_hatching.ensures
