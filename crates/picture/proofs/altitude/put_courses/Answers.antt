use Rattle.std.proofs.Common.{◌≡◌, ℕ, ◌+◌, ◌++◌, length, sym, ap, ◌∙◌, subst, arith}
use Rattle.std.specs.List.{flat_map, range_with_len}
use Rattle.acas_lines.proofs.Ranges.{flat-more}
use Rattle.picture.specs.Altitude.{course_marks}
use Rattle.picture.proofs.altitude.put_courses.Goals as goal

pub loop-own-preserved : goal.loop-own-preserved
loop-own-preserved g c =
    let f = course_marks c.args.axis c.args.labels.now c.args.encounter.now in
    let n = c.loop-own.own in
    let here : 0 + n ≡ n = omega arith in
    subst (g.D.Drawing.drew c.args.drawing.now c.put_course.new.drawing) (ap (λ (k : ℕ). flat_map f (range_with_len 0 n) ++ f k) (sym here) ∙ sym (flat-more f 0 n))
    (g.met.D.Drawing.then _ _ _ _ _ c.loop-own.invariant c.put_course.ensures)

pub returns : goal.returns
returns g c =
    let f = course_marks c.args.axis c.args.labels.now c.args.encounter.now in
    let count = ap length c.crafts-own-end.ensures.value in
    let all : c.loop-own.own ≡ length c.args.encounter.now.crafts = (let end = c.loop-own-test.false in let most = c.loop-own.auto.own-end in omega arith) in
    subst (λ (n : ℕ). g.D.Drawing.drew c.args.drawing.now c.loop-own.drawing (flat_map f (range_with_len 0 n))) all c.loop-own.invariant
