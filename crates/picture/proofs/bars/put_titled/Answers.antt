use Rattle.picture.specs.Bars.{titled_bar}
use Rattle.picture.proofs.bars.put_titled.Goals as goal

pub returns : goal.returns
unfolding titled_bar
returns g c =
    let kind = rw c.advised.ensures at c.put_box.ensures in
    let one = rw c.bar_area.ensures at kind in
    let two = rw c.word.ensures.text at c.put_word.ensures in
    g.met.D.Drawing.then _ _ _ _ _ one two
