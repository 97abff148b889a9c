use Rattle.pair_panels.proofs.headline.put_headline_with.Goals as goal

pub returns : goal.returns
returns g c =
    let one = rw c.point_at.ensures at c.put_words.ensures in
    let two = rw c.point_at-2.ensures at c.put_words-2.ensures in
    g.met.D.Drawing.then _ _ _ _ _ one two
