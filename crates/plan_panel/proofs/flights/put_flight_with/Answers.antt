use Rattle.plan_panel.proofs.flights.put_flight_with.Goals as goal

pub returns : goal.returns
returns g c =
    let line = rw c.address_text.ensures.text at c.put_line_of.ensures in
    let across = rw c.x.ensures.value at c.put_start.ensures in
    let start = rw c.y.ensures.value at across in
    g.met.D.Drawing.then _ _ _ _ _ line (g.met.D.Drawing.then _ _ _ _ _ c.put_ticks.ensures (g.met.D.Drawing.then _ _ _ _ _ start c.put_placed.ensures))
