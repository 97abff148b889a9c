use Rattle.picture.proofs.heard.put_line_words.Goals as goal

pub returns : goal.returns
returns g c =
    let one = rw c.point_at.ensures at c.put_words.ensures in
    let two = rw c.point_at-2.ensures at c.put_words-2.ensures in
    let three = rw c.point_at-3.ensures at c.put_words-3.ensures in
    g.met.D.Drawing.then _ _ _ _ _ one (g.met.D.Drawing.then _ _ _ _ _ two three)
