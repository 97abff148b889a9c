use Rattle.picture.proofs.picture.put_plan_section.Goals as goal

pub returns : goal.returns
returns g c =
    let nearest = rw c.approach_of-nearest.ensures.value at c.put_plan.ensures.0 in
    let start = rw c.requires.start at nearest in
    g.met.S.LineSink.then _ _ _ _ _ c.begin_section.ensures (g.met.S.LineSink.then _ _ _ _ _ start c.end_section.ensures)
