use Rattle.std.proofs.Common.{◌≡◌, ℕ, ◌+◌, ◌++◌, length, ap, sym, ◌∙◌, subst, arith}
use Rattle.std.specs.List.{flat_map, range_with_len}
use Rattle.acas_base.specs.Encounter.{Parts}
use Rattle.acas_lines.proofs.Ranges.{flat-more}
use Rattle.air_journal.specs.States.{State}
use Rattle.deliveries.specs.Text.{link_lines}
use Rattle.deliveries.proofs.lines.put_from.Goals as goal

pub loop-receiver-preserved : goal.loop-receiver-preserved
loop-receiver-preserved g c =
    let f = link_lines c.args.deliveries.now.encounter c.args.deliveries.now.journal c.args.sender in
    let k = c.loop-receiver.receiver in
    let next : 0 + k ≡ k = omega arith in
    subst (g.S.LineSink.took c.args.sink.now c.put_link.new.sink) (ap (λ (n : ℕ). flat_map f (range_with_len 0 k) ++ f n) (sym next) ∙ sym (flat-more f 0 k))
    (g.met.S.LineSink.then _ _ _ _ _ c.loop-receiver.invariant c.put_link.ensures)

pub returns : goal.returns
returns g c =
    let f = link_lines c.args.deliveries.now.encounter c.args.deliveries.now.journal c.args.sender in
    let count = c.craft_count-count.ensures ∙ ap (λ (p : Parts). length p.crafts) (c.enc.ensures ∙ ap (λ (s : State). s.encounter) c.state.ensures) in
    let all : c.loop-receiver.receiver ≡ length c.args.deliveries.now.encounter.crafts = (let t = c.loop-receiver-test.false in let high = c.loop-receiver.auto.receiver-end in omega arith) in
    subst (λ (n : ℕ). g.S.LineSink.took c.args.sink.now c.loop-receiver.sink (flat_map f (range_with_len 0 n))) all c.loop-receiver.invariant
