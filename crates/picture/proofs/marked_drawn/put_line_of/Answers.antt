use Rattle.picture.specs.MarkedDrawn.{line_of}
use Rattle.picture.proofs.marked_drawn.put_line_of.Goals as goal

pub returns : goal.returns
unfolding line_of
returns g c =
    let x = rw c.begin.ensures.value at c.put_line_at.ensures in
    let line = rw c.mark_title-title.ensures.text at x in
    let there = rw c.has_letter-there.ensures at c.put_letter_where.ensures in
    let at = rw c.letter_of-at.ensures.value at there in
    let letter = rw c.letter_text.ensures.text at at in
    let titled = rw c.mark_title-title.ensures.text at letter in
    g.met.D.Drawing.then _ _ _ _ _ line titled
