use Rattle.picture.proofs.time.put_time.Goals as goal

pub returns : goal.returns
returns g c =
    let ticks = rw c.tick_place.ensures.value at c.put_time_ticks.ensures in
    let name = rw c.axis_name.ensures.text at c.put_box_and_name.ensures in
    g.met.D.Drawing.then _ _ _ _ _ ticks name
