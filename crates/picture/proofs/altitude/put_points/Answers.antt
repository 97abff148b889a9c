use Rattle.std.proofs.Common.{◌≡◌, ℕ, ◌+◌, ◌-◌, [], ◌∷◌, ◌++◌, sym, ap, ◌∙◌, subst, arith}
use Rattle.std.specs.Prelude.{map}
use Rattle.std.specs.List.{range_with_len}
use Rattle.picture.proofs.Mapping.{map-more}
use Rattle.picture.specs.Altitude.{course_point}
use Rattle.picture.proofs.altitude.put_points.Goals as goal

pub loop-cycle-preserved : goal.loop-cycle-preserved
loop-cycle-preserved g c =
    let f = course_point c.args.axis c.args.encounter.now c.args.own in
    let n = c.loop-cycle.cycle - 1 in
    let here : 1 + n ≡ c.loop-cycle.cycle = omega arith in
    let next : n + 1 ≡ (c.loop-cycle.cycle + 1) - 1 = omega arith in
    let point = rw c.course_point.ensures at c.point.ensures in
    subst (g.D.Drawing.passed c.args.drawing.now c.point.new.self)
    (ap (λ (k : ℕ). map f (range_with_len 1 n) ++ f k ∷ []) (sym here) ∙ sym (map-more f 1 n) ∙ ap (λ (k : ℕ). map f (range_with_len 1 k)) next)
    (g.met.D.Drawing.more_points _ _ _ _ _ c.loop-cycle.invariant point)

pub returns : goal.returns
returns g c =
    let f = course_point c.args.axis c.args.encounter.now c.args.own in
    let run = c.requires.time in
    let all : c.loop-cycle.cycle - 1 ≡ c.args.encounter.now.cycles = (let end = c.loop-cycle-test.false in let most = c.loop-cycle.auto.cycle-end in omega arith) in
    subst (λ (n : ℕ). g.D.Drawing.passed c.args.drawing.now c.loop-cycle.drawing (map f (range_with_len 1 n))) all c.loop-cycle.invariant
