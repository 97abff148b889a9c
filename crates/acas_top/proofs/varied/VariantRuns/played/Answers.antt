use Rattle.std.proofs.Common.{subst}
use Rattle.acas_top.proofs.Variations.{played-as}
use Rattle.acas_top.specs.Varying.{Base, IsPlayedAs}
use Rattle.outcomes.specs.Crews.{AreCrews}
use Rattle.variants.specs.Variants.{IsAnswer}
use Rattle.acas_top.proofs.varied.VariantRuns.played.Goals as goal

pub returns : goal.returns
returns c =
    let state = c.self.inside.state in
    let changed = c.in-Some.changed in
    let is = subst (IsAnswer state.encounter c.args.change) c.in-Some.is (rw c.enc.ensures at c.in_ok-changed.ensures) in
    let sizes = c.sizes_law.ensures state.encounter c.args.change changed is.varied in
    subst (λ (base : Base). IsPlayedAs base.encounter base.journal c.args.change (record { outcome = c.outcome_of.result; heard = c.heard.result })) c.self.view_is
    (played-as state.encounter state.journal c.args.change changed c.in_ok-state.state (λ journal crafts cycles. AreCrews journal crafts cycles c.self.inside.crews.value) c.outcome_of.result c.heard.result is sizes c.in_ok-state.ensures.encounter c.in_ok-state.ensures.serial c.outcome_of.ensures c.self.invariant.0 (rw c.deref.ensures at c.heard.ensures))
