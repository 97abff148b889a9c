use Rattle.std.proofs.Common.{◌≡◌, ℕ, ◌+◌, ◌++◌, length, ap, sym, ◌∙◌, subst, arith}
use Rattle.std.specs.List.{flat_map, range_with_len}
use Rattle.acas_lines.proofs.Ranges.{flat-more}
use Rattle.deliveries.specs.Text.{missed_lines}
use Rattle.deliveries.proofs.lines.put_missed_by.Goals as goal

pub loop-target-preserved : goal.loop-target-preserved
loop-target-preserved g c =
    let f = missed_lines c.args.encounter.now c.args.own in
    let k = c.loop-target.target in
    let next : 0 + k ≡ k = omega arith in
    subst (g.S.LineSink.took c.args.sink.now c.put_missed.new.sink) (ap (λ (n : ℕ). flat_map f (range_with_len 0 k) ++ f n) (sym next) ∙ sym (flat-more f 0 k))
    (g.met.S.LineSink.then _ _ _ _ _ c.loop-target.invariant c.put_missed.ensures)

pub returns : goal.returns
returns g c =
    let f = missed_lines c.args.encounter.now c.args.own in
    let count = c.craft_count-count.ensures in
    let all : c.loop-target.target ≡ length c.args.encounter.now.crafts = (let t = c.loop-target-test.false in let high = c.loop-target.auto.target-end in omega arith) in
    subst (λ (n : ℕ). g.S.LineSink.took c.args.sink.now c.loop-target.sink (flat_map f (range_with_len 0 n))) all c.loop-target.invariant
