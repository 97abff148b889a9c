use Rattle.std.proofs.Common.{ℕ, length, ap, ◌∙◌, subst}
use Rattle.acas_base.specs.Encounter.{Parts}
use Rattle.air_journal.specs.States.{State}
use Rattle.summary.specs.Head.{alone_lines}
use Rattle.summary.specs.Pairs.{pairs_lines}
use Rattle.summary.proofs.summary.SummaryText.put.Goals as goal

pub returns : goal.returns
returns g c =
    let count = ap length (c.crafts.ensures.value ∙ ap (λ (p : Parts). p.crafts) c.enc.ensures) in
    let alone = subst (λ (n : ℕ). g.S.LineSink.took c.put.new.sink c.put-2.new.sink (alone_lines n)) count c.put-2.ensures in
    let pairs = subst (λ (s : State). g.S.LineSink.took c.put-2.new.sink c.put-3.new.sink (pairs_lines s.encounter s.journal)) c.new.ensures c.put-3.ensures in
    g.met.S.LineSink.then _ _ _ _ _ c.put.ensures (g.met.S.LineSink.then _ _ _ _ _ alone pairs)
