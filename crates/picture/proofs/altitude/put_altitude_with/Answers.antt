use Rattle.picture.proofs.altitude.put_altitude_with.Goals as goal

pub returns : goal.returns
returns g c =
    let courses = rw c.enc.ensures at c.put_courses.ensures in
    g.met.D.Drawing.then _ _ _ _ _ c.put_axis.ensures (g.met.D.Drawing.then _ _ _ _ _ c.put_modelled.ensures courses)
