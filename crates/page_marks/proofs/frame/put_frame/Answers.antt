use Rattle.page_marks.proofs.frame.put_frame.Goals as goal

pub returns : goal.returns
returns g c =
    let one = rw c.point_at.ensures at c.put_words.ensures in
    let two = rw c.point_at-2.ensures at c.put_words-2.ensures in
    let area = rw c.area_at.ensures at c.put_line.ensures in
    let three = rw c.ink.ensures at area in
    g.met.D.Drawing.then _ _ _ _ _ one (g.met.D.Drawing.then _ _ _ _ _ two three)
