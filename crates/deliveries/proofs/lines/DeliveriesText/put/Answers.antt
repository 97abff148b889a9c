use Rattle.std.proofs.Common.{◌∷◌, [], List, ℕ, ap, ◌∙◌, subst}
use Rattle.acas_base.specs.Encounter.{Parts}
use Rattle.air_journal.specs.States.{State}
use Rattle.deliveries.specs.Text.{replies_lines}
use Rattle.deliveries.proofs.lines.DeliveriesText.put.Goals as goal

pub returns : goal.returns
returns g c =
    let s = c.args.self.now in
    let first = subst (λ (l : List ℕ). g.S.LineSink.took c.args.sink.now c.line.new.self (l ∷ [])) c.fixed_line.ensures c.line.ensures in
    let counts = subst (λ (l : List ℕ). g.S.LineSink.took c.line.new.self c.line-2.new.self (l ∷ [])) c.counts_line.ensures c.line-2.ensures in
    let enc = c.enc.ensures ∙ ap (λ (t : State). t.encounter) c.state.ensures in
    let replies = subst (λ (p : Parts). g.S.LineSink.took c.put_links.new.sink c.put_replies.new.sink (replies_lines p)) enc c.put_replies.ensures in
    g.met.S.LineSink.then _ _ _ _ _ first (g.met.S.LineSink.then _ _ _ _ _ counts (g.met.S.LineSink.then _ _ _ _ _ c.put_links.ensures replies))
