use Rattle.std.proofs.Common.{◌≡◌, ℕ, ◌+◌, ◌++◌, sym, ap, ◌∙◌, subst, arith}
use Rattle.std.specs.List.{flat_map, range_with_len}
use Rattle.acas_lines.proofs.Ranges.{flat-more}
use Rattle.seconds_panel.specs.Panel.{second_tick}
use Rattle.seconds_panel.proofs.panel.put_second_ticks.Goals as goal

pub loop-number-preserved : goal.loop-number-preserved
loop-number-preserved g c =
    let f = second_tick c.args.top in
    let n = c.loop-number.number in
    let here : 0 + n ≡ n = omega arith in
    subst (g.D.Drawing.drew c.args.drawing.now c.put_second_tick.new.drawing) (ap (λ (k : ℕ). flat_map f (range_with_len 0 n) ++ f k) (sym here) ∙ sym (flat-more f 0 n))
    (g.met.D.Drawing.then _ _ _ _ _ c.loop-number.invariant c.put_second_tick.ensures)

pub returns : goal.returns
returns g c =
    let f = second_tick c.args.top in
    let all : c.loop-number.number ≡ 5 = (let end = c.loop-number-test.false in let most = c.loop-number.auto.number-end in omega arith) in
    subst (λ (n : ℕ). g.D.Drawing.drew c.args.drawing.now c.loop-number.drawing (flat_map f (range_with_len 0 n))) all c.loop-number.invariant
