use Rattle.std.proofs.Common.{◌≡◌, ℕ, ◌+◌, ◌-◌, ◌++◌, sym, ap, ◌∙◌, subst, arith}
use Rattle.std.specs.List.{flat_map, range_with_len}
use Rattle.acas_lines.proofs.Ranges.{flat-more}
use Rattle.plan_panel.specs.Marks.{tick_marks}
use Rattle.plan_panel.proofs.flights.put_ticks.Goals as goal

pub loop-cycle-preserved : goal.loop-cycle-preserved
loop-cycle-preserved g c =
    let f = tick_marks c.args.chart.top c.args.chart.encounter.now c.args.chart.time.start c.args.own c.args.address in
    let n = c.loop-cycle.cycle - 1 in
    let here : 1 + n ≡ c.loop-cycle.cycle = omega arith in
    let next : n + 1 ≡ (c.loop-cycle.cycle + 1) - 1 = omega arith in
    subst (g.D.Drawing.drew c.args.drawing.now c.put_tick.new.drawing)
    (ap (λ (k : ℕ). flat_map f (range_with_len 1 n) ++ f k) (sym here) ∙ sym (flat-more f 1 n) ∙ ap (λ (k : ℕ). flat_map f (range_with_len 1 k)) next)
    (g.met.D.Drawing.then _ _ _ _ _ c.loop-cycle.invariant c.put_tick.ensures)

pub returns : goal.returns
returns g c =
    let f = tick_marks c.args.chart.top c.args.chart.encounter.now c.args.chart.time.start c.args.own c.args.address in
    let run = c.args.chart.run in
    let all : c.loop-cycle.cycle - 1 ≡ c.args.chart.encounter.now.cycles = (let end = c.loop-cycle-test.false in let most = c.loop-cycle.auto.cycle-end in omega arith) in
    subst (λ (n : ℕ). g.D.Drawing.drew c.args.drawing.now c.loop-cycle.drawing (flat_map f (range_with_len 1 n))) all c.loop-cycle.invariant
