-- What the columns of a line say of one another.
use Rattle.std.specs.Prelude.{◌≡◌, ◌*◌, ◌≤◌, ◌&&◌, Bool, true, false, pos, ◌≤ℤ◌, ◌<ℤ◌, IfSome, List, Option, Some, is_some}
use Rattle.std.specs.Option.{option_map_or}
use Rattle.acas_base.specs.Encounter.{Parts}
use Rattle.acas_base.specs.Senses.{sense_of}
use Rattle.acas_base.specs.declared.entry.Entry.{Entry}
use Rattle.reasons.specs.Explained.{OfEachReason}
use Rattle.reasons.specs.Reasons.{reason_of}
use Rattle.reasons.specs.declared.reason.Reason.{Reason}
use Rattle.reasons.specs.declared.rules.Rule.TheVariants.{Starts, Reverses, Weakens}
use Rattle.reasons.specs.declared.shown.Continued.{Continued}
use Rattle.reasons.specs.declared.shown.Projected.{Projected}
use Rattle.reasons.specs.declared.shown.Tested.{Tested}
use Rattle.test_seconds.specs.Seconds.{is_within}
use Rattle.test_seconds.specs.declared.pair.TestSeconds.{TestSeconds}

-- Both tests have seconds, and these are no more than their tau.
abbrev pub are_within_tau : TestSeconds → Bool
are_within_tau needs = is_within needs.range needs.tau && is_within needs.altitude needs.tau

-- There is traffic exactly where the seconds of a traffic advisory are within tau, and a threat exactly where own
-- aircraft resolves and those of a resolution advisory are.
pub record GoesBySeconds (tested : Tested) : Type 0 where
  pub traffic : tested.traffic ≡ are_within_tau tested.ta
  pub threat : tested.threat ≡ option_map_or are_within_tau tested.ra false

-- Lines tell of the choice exactly where the pair is tested and own aircraft resolves.
abbrev pub resolves : Option Tested → Bool
resolves tested = option_map_or (λ (it : Tested). is_some it.ra) tested false

-- The advisory has the sense that a new choice has.
pub record StartsAsChosen (reason : Reason) : Type 0 where
  pub projected : Projected
  pub is_projected : reason.seen.projected ≡ Some projected
  pub sense : sense_of reason.cell ≡ Some projected.chosen

-- The sense of the advisory had ALIM.
pub record WeakensWithAlim (reason : Reason) : Type 0 where
  pub continued : Continued
  pub is_continued : reason.continued ≡ Some continued
  pub has_alim : continued.has_alim ≡ true

-- At least four seconds were left, the sense of the advisory couldn't give ALIM any more, and the other one could.
pub record ReversesForAlim (reason : Reason) : Type 0 where
  pub projected : Projected
  pub is_projected : reason.seen.projected ≡ Some projected
  pub continued : Continued
  pub is_continued : reason.continued ≡ Some continued
  pub left : 8 ≤ projected.halves
  pub same : continued.same_later <ℤ pos (10 * projected.alim)
  pub other : pos (10 * projected.alim) ≤ℤ continued.other_later

-- In either profile: lines tell of the choice exactly where own aircraft resolves, and an advisory that starts has the
-- sense that is told.
pub record AgreesOnChoice (reason : Reason) : Type 0 where
  pub resolves : is_some reason.seen.projected ≡ resolves reason.seen.tested
  pub starts : reason.rule ≡ Starts → StartsAsChosen reason

-- In profile 1: what the numbers of a reason say is what its marks and its rule say.
pub record Agrees (reason : Reason) : Type 0 where
  pub tests : IfSome reason.seen.tested GoesBySeconds
  pub choice : AgreesOnChoice reason
  pub weakens : reason.rule ≡ Weakens → WeakensWithAlim reason
  pub reverses : reason.rule ≡ Reverses → ReversesForAlim reason

abbrev pub AreAgreeingOnChoice : Parts → List Entry → Type 0
AreAgreeingOnChoice e journal = OfEachReason (λ e earlier own cycle cells other. AgreesOnChoice (reason_of e earlier own cycle cells other)) e journal

abbrev pub AreAgreeing : Parts → List Entry → Type 0
AreAgreeing e journal = OfEachReason (λ e earlier own cycle cells other. Agrees (reason_of e earlier own cycle cells other)) e journal
