use Rattle.std.proofs.Common.{◌≡◌, ℕ, ◌+◌, ◌++◌, length, ap, sym, ◌∙◌, subst, arith}
use Rattle.std.specs.List.{flat_map, range_with_len}
use Rattle.acas_lines.proofs.Ranges.{flat-more}
use Rattle.deliveries.specs.Text.{all_missed_lines, missed_by}
use Rattle.deliveries.proofs.lines.put_all_missed.Goals as goal

pub loop-own-preserved : goal.loop-own-preserved
loop-own-preserved g c =
    let f = missed_by c.args.encounter.now in
    let k = c.loop-own.own in
    let next : 0 + k ≡ k = omega arith in
    subst (g.S.LineSink.took c.args.sink.now c.put_missed_by.new.sink) (ap (λ (n : ℕ). flat_map f (range_with_len 0 k) ++ f n) (sym next) ∙ sym (flat-more f 0 k))
    (g.met.S.LineSink.then _ _ _ _ _ c.loop-own.invariant c.put_missed_by.ensures)

pub returns : goal.returns
unfolding all_missed_lines
returns g c =
    let f = missed_by c.args.encounter.now in
    let count = c.craft_count-count.ensures in
    let all : c.loop-own.own ≡ length c.args.encounter.now.crafts = (let t = c.loop-own-test.false in let high = c.loop-own.auto.own-end in omega arith) in
    subst (λ (n : ℕ). g.S.LineSink.took c.args.sink.now c.loop-own.sink (flat_map f (range_with_len 0 n))) all c.loop-own.invariant
