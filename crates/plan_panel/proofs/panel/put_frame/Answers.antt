use Rattle.plan_panel.proofs.panel.put_frame.Goals as goal

pub returns : goal.returns
returns g c =
    let at = rw c.point_at.ensures at c.put_words.ensures in
    let one = rw c.fixed_line.ensures at at in
    let area = rw c.area_at.ensures at c.put_line.ensures in
    let two = rw c.ink.ensures at area in
    g.met.D.Drawing.then _ _ _ _ _ one two
