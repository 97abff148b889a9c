use Rattle.std.proofs.Common.{◌≡◌, ℕ, get_or, sym, ap, ◌∙◌}
use Rattle.std.proofs.lemmas.Bool.{cond-false, cond-true}
use Rattle.acas_base.specs.Messages.{has_advisory}
use Rattle.acas_base.specs.declared.advisory.Cell.TheVariants.{Clear}
use Rattle.air_rules.specs.Journal.{cell_at}
use Rattle.ra_report.specs.Stories.{with_threat}
use Rattle.ra_report.specs.declared.story.Threats.{Threats}
use Rattle.ra_report.proofs.Ranges.{threats-more}
use Rattle.ra_report.proofs.story.Threats.of.Goals as goal
use Rattle.ra_report.proofs.story.Threats.of.Goals.{then-has_advisory, else-has_advisory}

pub loop-other-preserved : goal.loop-other-preserved
loop-other-preserved c =
    let cells = c.args.cells.now in
    let other = c.loop-other.other in
    let here : c.has_advisory.result ≡ has_advisory (cell_at cells other) = c.has_advisory.ensures ∙ ap (λ (n : ℕ). has_advisory (get_or cells.list n Clear)) c.from.ensures in
    let more = threats-more cells other in
    elim c.if-has_advisory.branch [
      | then-has_advisory w ↦ w.found-is ∙ w.with-found.ensures ∙ ap (λ (t : Threats). with_threat t other) c.loop-other.invariant ∙ sym (more ∙ cond-true _ _ _ (sym here ∙ w.if-has_advisory.true))
      | else-has_advisory w ↦ w.found-is ∙ c.loop-other.invariant ∙ sym (more ∙ cond-false _ _ _ (sym here ∙ w.if-has_advisory.false))
    ]
