use Rattle.std.proofs.Common.{◌≡◌, ℕ, sym, subst, arith}
use Rattle.std.specs.Prelude.{map}
use Rattle.std.specs.List.{range_with_len}
use Rattle.page_marks.proofs.Bounded.{map-more}
use Rattle.seconds_panel.specs.Lines.{row_length, value_point}
use Rattle.seconds_panel.proofs.lines.put_points.Goals as goal

pub loop-step-preserved : goal.loop-step-preserved
loop-step-preserved g c =
    let run = c.args.seconds.now in
    let f = value_point c.args.top run.encounter run.pair c.args.series in
    let point = rw c.value_point.ensures at c.point.ensures in
    subst (g.D.Drawing.passed c.args.drawing.now c.point.new.self) (sym (map-more f c.args.row.first c.loop-step.step)) (g.met.D.Drawing.more_points _ _ _ _ _ c.loop-step.invariant point)

pub returns : goal.returns
returns g c =
    let run = c.args.seconds.now in
    let f = value_point c.args.top run.encounter run.pair c.args.series in
    let order = c.requires.order in
    let all : c.loop-step.step ≡ row_length c.args.row = (let done = c.loop-step-test.false in let most = c.loop-step.auto.step-end in omega arith) in
    subst (λ (n : ℕ). g.D.Drawing.passed c.args.drawing.now c.loop-step.drawing (map f (range_with_len c.args.row.first n))) all c.loop-step.invariant
