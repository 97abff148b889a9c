use Rattle.std.proofs.Common.{ℕ, ◌+◌, ap, ◌∙◌}
use Rattle.page_marks.specs.Places.{point_at}
use Rattle.picture.proofs.time.put_box_and_name.Goals as goal

pub returns : goal.returns
returns g c =
    let at = c.point_at.ensures ∙ ap (λ (n : ℕ). point_at 9900 (n + 780)) c.plot_bottom.ensures.value in
    let box = rw c.plot_area.ensures at c.put_line.ensures in
    let one = rw c.ink.ensures at box in
    let words = rw at at c.put_words.ensures in
    let two = rw c.fixed_line.ensures at words in
    g.met.D.Drawing.then _ _ _ _ _ one two
