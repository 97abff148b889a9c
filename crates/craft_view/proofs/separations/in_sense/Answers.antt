use Rattle.std.proofs.Common.{◌≡◌, pos, ◌≤ℤ◌, ◌∙◌, rules}
use Rattle.acas_base.specs.Strengths.{floor_of}
use Rattle.acas_base.specs.declared.advisory.Strength.{Strength}
use Rattle.acas_base.specs.declared.advisory.Strength.TheVariants.{Limit2000, Limit1000, Limit500, Level, Positive, Increase}
use Rattle.acas_base.specs.declared.setting.Profile.TheVariants.{One}
use Rattle.craft_view.specs.Separations.{apart, separation}
use Rattle.craft_view.proofs.Keeping.{separation-in-delay, separation-met}
use Rattle.craft_view.proofs.separations.in_sense.Goals as goal

pub returns-then-approach-from : goal.returns-then-approach-from
returns-then-approach-from c =
    let a = c.args in
    let m = a.motion.now in
    let to = a.approach.now in
    let kept : c.apart-kept.result ≡ apart a.sense to.own to.target = search rules in
    let each : (s : Strength) → c.apart-kept.result ≡ separation a.profile m to.halves a.response a.sense s =
    λ s. kept ∙ separation-in-delay a.profile m to a.response a.sense s c.requires.approach (search rules) in
    let limit2000 = each Limit2000 in
    let limit1000 = each Limit1000 in
    let limit500 = each Limit500 in
    let level = each Level in
    let positive = each Positive in
    let increase = each Increase in
    search rules

pub returns-then-asked_rate-rate : goal.returns-then-asked_rate-rate
returns-then-asked_rate-rate c =
    let a = c.args in
    let m = a.motion.now in
    let to = a.approach.now in
    let kept : c.apart-kept.result ≡ apart a.sense to.own to.target = search rules in
    let each : (s : Strength) → floor_of s ≤ℤ pos 0 → c.apart-kept.result ≡ separation One m to.halves a.response a.sense s =
    λ s low. kept ∙ separation-met m to a.response a.sense s c.requires.approach c.requires.response.forward low (search rules) in
    let limit2000 = each Limit2000 (search rules) in
    let limit1000 = each Limit1000 (search rules) in
    let limit500 = each Limit500 (search rules) in
    let level = each Level (search rules) in
    search rules
