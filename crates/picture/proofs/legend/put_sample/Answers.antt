use Rattle.picture.specs.Legend.{sample_marks}
use Rattle.picture.proofs.legend.put_sample.Goals as goal

pub returns : goal.returns
unfolding sample_marks
returns g c =
    let shaft = rw c.sample_shaft.ensures.value at c.put_sign.ensures in
    let one = rw c.new.ensures at shaft in
    let at = rw c.point_at.ensures at c.put_words.ensures in
    let two = rw c.fixed_line.ensures at at in
    g.met.D.Drawing.then _ _ _ _ _ one two
