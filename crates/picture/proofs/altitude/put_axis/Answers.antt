use Rattle.std.proofs.Common.{rules, w64, ap, ◌∙◌}
use Rattle.std.proofs.lemmas.Int.{to_z-of_z}
use Rattle.picture.specs.Altitude.{axis_marks, height_text}
use Rattle.picture.proofs.altitude.put_axis.Goals as goal

pub returns : goal.returns
unfolding axis_marks
returns g c =
    let above = c.height_text.ensures.text ∙ ap height_text (to_z-of_z w64 c.args.axis.high (search rules)) in
    let below = c.height_text-2.ensures.text ∙ ap height_text (to_z-of_z w64 c.args.axis.low (search rules)) in
    let box = rw c.course_area.ensures at c.put_line.ensures in
    let one = rw c.ink.ensures at box in
    let high = rw c.point_at.ensures at c.put_words.ensures in
    let two = rw above at high in
    let low = rw c.point_at-2.ensures at c.put_words-2.ensures in
    let three = rw below at low in
    g.met.D.Drawing.then _ _ _ _ _ one (g.met.D.Drawing.then _ _ _ _ _ two three)
