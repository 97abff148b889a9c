use Rattle.std.proofs.Common.{◌≡◌, ℕ, sym, subst, arith}
use Rattle.std.specs.Prelude.{map}
use Rattle.std.specs.List.{range_with_len}
use Rattle.picture.proofs.Mapping.{map-more}
use Rattle.picture.specs.Altitude.{course_point}
use Rattle.picture.specs.Bands.{near_edge, reach_length}
use Rattle.picture.proofs.bands.put_near.Goals as goal

pub loop-step-preserved : goal.loop-step-preserved
loop-step-preserved g c =
    let f = course_point c.args.course.axis c.args.course.encounter.now c.args.course.own in
    let point = rw c.place.ensures at c.point.ensures in
    subst (g.D.Drawing.passed c.args.drawing.now c.point.new.self) (sym (map-more f c.args.row.first c.loop-step.step)) (g.met.D.Drawing.more_points _ _ _ _ _ c.loop-step.invariant point)

pub returns : goal.returns
unfolding near_edge
returns g c =
    let f = course_point c.args.course.axis c.args.course.encounter.now c.args.course.own in
    let end = c.reach_end-end.ensures.value in
    let least = c.reach_end-end.ensures.least in
    let order = c.requires.order in
    let all : c.loop-step.step ≡ reach_length c.args.course.encounter.now.cycles c.args.row = (let done = c.loop-step-test.false in let most = c.loop-step.auto.step-end in omega arith) in
    subst (λ (n : ℕ). g.D.Drawing.passed c.args.drawing.now c.loop-step.drawing (map f (range_with_len c.args.row.first n))) all c.loop-step.invariant
