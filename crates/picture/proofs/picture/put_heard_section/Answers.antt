use Rattle.picture.proofs.picture.put_heard_section.Goals as goal

pub returns : goal.returns
returns g c = g.met.S.LineSink.then _ _ _ _ _ c.begin_section.ensures (g.met.S.LineSink.then _ _ _ _ _ c.put_heard.ensures.0 c.end_section.ensures)
