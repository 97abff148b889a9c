use Rattle.seconds_panel.proofs.panel.put_named.Goals as goal

pub returns : goal.returns
returns g c =
    let run = rw c.requires.time at c.put_time_ticks.ensures in
    let clock = rw c.requires.start at run in
    let ticks = rw c.tick_place.ensures at clock in
    let headed = rw c.heading_text-heading.ensures.text at c.put_frame.ensures in
    let frame = rw c.note_text.ensures.text at headed in
    g.met.D.Drawing.then _ _ _ _ _ c.put_second_ticks.ensures (g.met.D.Drawing.then _ _ _ _ _ ticks (g.met.D.Drawing.then _ _ _ _ _ frame (g.met.D.Drawing.then _ _ _ _ _ c.put_legend.ensures c.put_lines.ensures)))
