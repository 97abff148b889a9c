use Rattle.picture.proofs.legend.put_remark.Goals as goal

pub returns : goal.returns
returns g c =
    let at = rw c.point_at.ensures at c.put_words.ensures in
    rw c.fixed_line.ensures at at
