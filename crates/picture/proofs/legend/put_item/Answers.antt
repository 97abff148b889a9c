use Rattle.picture.specs.Legend.{item_marks}
use Rattle.picture.proofs.legend.put_item.Goals as goal

pub returns : goal.returns
unfolding item_marks
returns g c =
    let area = rw c.area_at.ensures at c.put_box.ensures in
    let one = rw c.new.ensures at area in
    let at = rw c.point_at.ensures at c.put_words.ensures in
    let two = rw c.fixed_line.ensures at at in
    g.met.D.Drawing.then _ _ _ _ _ one two
