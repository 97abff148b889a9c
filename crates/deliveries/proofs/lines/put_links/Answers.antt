use Rattle.std.proofs.Common.{◌≡◌, ℕ, ◌+◌, ◌++◌, length, ap, sym, ◌∙◌, subst, arith}
use Rattle.std.specs.List.{flat_map, range_with_len}
use Rattle.acas_base.specs.Encounter.{Parts}
use Rattle.acas_lines.proofs.Ranges.{flat-more}
use Rattle.air_journal.specs.States.{State}
use Rattle.deliveries.specs.Text.{all_link_lines, lines_from}
use Rattle.deliveries.proofs.lines.put_links.Goals as goal

pub loop-sender-preserved : goal.loop-sender-preserved
loop-sender-preserved g c =
    let f = lines_from c.args.deliveries.now.encounter c.args.deliveries.now.journal in
    let k = c.loop-sender.sender in
    let next : 0 + k ≡ k = omega arith in
    subst (g.S.LineSink.took c.args.sink.now c.put_from.new.sink) (ap (λ (n : ℕ). flat_map f (range_with_len 0 k) ++ f n) (sym next) ∙ sym (flat-more f 0 k))
    (g.met.S.LineSink.then _ _ _ _ _ c.loop-sender.invariant c.put_from.ensures)

pub returns : goal.returns
unfolding all_link_lines
returns g c =
    let f = lines_from c.args.deliveries.now.encounter c.args.deliveries.now.journal in
    let count = c.craft_count-count.ensures ∙ ap (λ (p : Parts). length p.crafts) (c.enc.ensures ∙ ap (λ (s : State). s.encounter) c.state.ensures) in
    let all : c.loop-sender.sender ≡ length c.args.deliveries.now.encounter.crafts = (let t = c.loop-sender-test.false in let high = c.loop-sender.auto.sender-end in omega arith) in
    subst (λ (n : ℕ). g.S.LineSink.took c.args.sink.now c.loop-sender.sink (flat_map f (range_with_len 0 n))) all c.loop-sender.invariant
