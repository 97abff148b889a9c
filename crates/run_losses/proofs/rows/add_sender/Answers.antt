use Rattle.std.proofs.Common.{◌≡◌, ℕ, ◌++◌, ◌∙◌, ap, arith, get_or}
use Rattle.acas_base.specs.Encounter.{Parts}
use Rattle.air_rules.specs.Journal.{sends}
use Rattle.run_losses.proofs.Adding.{craft-more}
use Rattle.run_losses.specs.Parts.{losses_at, losses_by}
use Rattle.run_losses.proofs.rows.add_sender.Goals as goal

pub loop-receiver-preserved : goal.loop-receiver-preserved
loop-receiver-preserved c =
    let e = c.args.state.now.encounter in
    let J = c.args.state.now.journal in
    let part = c.args.part in
    let s = c.args.sender in
    let r = c.loop-receiver.receiver in
    let now = c.loop-receiver.changes.items in
    let n = c.crafts_of-receiver-end.ensures.value in
    let few = c.crafts_of-receiver-end.ensures.few in
    let within = c.loop-receiver-test.true in
    let from = c.requires.sender in
    let sent : get_or c.args.sent.now c.pair_of.result 0 ≡ sends J s r =
    ap (λ (k : ℕ). get_or c.args.sent.now k 0) c.pair_of.ensures ∙ c.requires.sent.each s r (omega arith) (omega arith) in
    c.in_ok-add_link.ensures
    ∙ ap (λ (p : Parts). now ++ losses_by p part s r (get_or c.args.sent.now c.pair_of.result 0)) c.enc.ensures
    ∙ ap (λ (k : ℕ). now ++ losses_by e part s r k) sent
    ∙ ap (λ l. l ++ losses_at e J part s r) c.loop-receiver.invariant
    ∙ craft-more (losses_at e J part s) c.args.changes.now.items r
