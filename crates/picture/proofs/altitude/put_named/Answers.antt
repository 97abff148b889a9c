use Rattle.std.proofs.Common.{ℕ, ◌+◌, ap, ap₂, ◌∙◌}
use Rattle.picture.specs.Altitude.{course_y}
use Rattle.page_marks.specs.Places.{point_at}
use Rattle.picture.proofs.altitude.put_named.Goals as goal

pub returns : goal.returns
returns g c =
    let e = c.args.encounter.now in
    let y = c.course_y.ensures.value ∙ ap (course_y c.args.axis e c.args.own) c.requires.time in
    let at = c.point_at.ensures ∙ ap₂ (λ (x y : ℕ). point_at x (y + 80)) c.name_x.ensures.value y in
    let one = rw c.address_text.ensures.text at c.put_line_of.ensures in
    let two = rw at at c.put_words.ensures in
    g.met.D.Drawing.then _ _ _ _ _ one two
