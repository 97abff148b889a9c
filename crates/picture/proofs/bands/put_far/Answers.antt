use Rattle.std.proofs.Common.{◌≡◌, ℕ, ◌+◌, ◌-◌, ◌++◌, ◌∷◌, [], ap, ◌∙◌, sym, subst, arith}
use Rattle.std.specs.Prelude.{map}
use Rattle.std.specs.List.{range_with_len}
use Rattle.picture.proofs.Mapping.{map-more}
use Rattle.picture.specs.Bands.{edge_point, far_edge, reach_end, reach_length}
use Rattle.picture.proofs.bands.put_far.Goals as goal

pub loop-back-preserved : goal.loop-back-preserved
loop-back-preserved g c =
    let e = c.args.course.encounter.now in
    let end = reach_end e.cycles c.args.row in
    let f = λ (k : ℕ). edge_point c.args.course.axis e c.args.course.own c.args.side c.args.depth (end - k) in
    let n = c.loop-back.back in
    let here : 0 + n ≡ n = omega arith in
    let where_it_is = c.beside.ensures ∙ ap (λ (m : ℕ). edge_point c.args.course.axis e c.args.course.own c.args.side c.args.depth (m - n)) c.reach_end-end.ensures.value in
    let point = rw where_it_is at c.point.ensures in
    subst (g.D.Drawing.passed c.args.drawing.now c.point.new.self)
    (ap (λ (k : ℕ). map f (range_with_len 0 n) ++ f k ∷ []) (sym here) ∙ sym (map-more f 0 n))
    (g.met.D.Drawing.more_points _ _ _ _ _ c.loop-back.invariant point)

pub returns : goal.returns
unfolding far_edge
returns g c =
    let e = c.args.course.encounter.now in
    let end = reach_end e.cycles c.args.row in
    let f = λ (k : ℕ). edge_point c.args.course.axis e c.args.course.own c.args.side c.args.depth (end - k) in
    let value = c.reach_end-end.ensures.value in
    let least = c.reach_end-end.ensures.least in
    let order = c.requires.order in
    let all : c.loop-back.back ≡ reach_length e.cycles c.args.row = (let done = c.loop-back-test.false in let most = c.loop-back.auto.back-end in omega arith) in
    subst (λ (n : ℕ). g.D.Drawing.passed c.args.drawing.now c.loop-back.drawing (map f (range_with_len 0 n))) all c.loop-back.invariant
