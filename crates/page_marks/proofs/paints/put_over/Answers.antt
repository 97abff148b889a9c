use Rattle.page_marks.proofs.paints.put_over.Goals as goal

pub returns : goal.returns
returns g c =
    let one = rw c.halo.ensures at c.words.ensures in
    let two = rw c.letters.ensures at c.words-2.ensures in
    g.met.D.Drawing.then _ _ _ _ _ one two
