-- The records of a text that ends well say an encounter.
use Rattle.std.proofs.Common.{◌≡◌, ℕ, ◌*◌, ◌<◌, ◌≤◌, Bool, true, false, List, [], ◌∷◌, length, Option, Some, None, refl, ap, arith, inl, inr}
use Rattle.std.specs.Prelude.{IsTrue, IfSome, is_none, unwrap_or}
use Rattle.std.specs.List.{list_any}
use Rattle.std.proofs.lemmas.Bool.{cases_lt, false≢true, true≢false}
use Rattle.std.proofs.lemmas.List.Elements.{All-nil, All-push}
use Rattle.acas_base.specs.Encounter.{AreCrafts, AreLabels, AreListed, AreRecords, IsCall, IsEncounter, IsFate, IsLeg, IsMiss, IsPlain, IsPlan, IsUnlabelled, IsVersion, is_active}
use Rattle.acas_base.specs.Labels.{is_label}
use Rattle.acas_base.specs.Order.{call_below, fate_below, leg_below, miss_below, plan_below}
use Rattle.acas_base.specs.declared.TheConstants.{CRAFTS}
use Rattle.acas_base.specs.declared.craft.CraftSpec.{CraftSpec}
use Rattle.acas_base.specs.declared.craft.Leg.{Leg}
use Rattle.acas_base.specs.declared.craft.Miss.{Miss}
use Rattle.acas_base.specs.declared.label.Call.{Call}
use Rattle.acas_base.specs.declared.link.Fate.{Fate}
use Rattle.acas_base.specs.declared.link.LinkPlan.{LinkPlan}
use Rattle.acas_base.specs.declared.setting.Profile.TheVariants.{One}
use Rattle.enc_file.specs.Earlier.{by_group, call_group, calls_of, crafts_of, encounter_by, fate_group, fates_of, gains_of, heading_of, leg_group, legs_of, miss_group, misses_of, no_heading, plan_group, plans_of, run_of, usual_gains, version_of}
use Rattle.enc_file.specs.WellRead.{AreGainsSaid, AreRead, IsNext, IsRunSaid}
use Rattle.enc_file.specs.declared.record.Heading.{Heading}
use Rattle.enc_file.specs.declared.record.Record.{Record}
use Rattle.enc_file.specs.declared.record.Record.TheVariants as said
use Rattle.enc_file.specs.declared.record.Run.{Run}
use Rattle.enc_file.specs.declared.record.TrackGains.{TrackGains}
use Rattle.enc_file.proofs.Called.{AreCallsRead, calls-apart, calls-read}
use Rattle.enc_file.proofs.Crafted.{AreCraftsRead, crafts-read, most-few}
use Rattle.enc_file.proofs.Faultless.{by-read}
use Rattle.enc_file.proofs.Grouped.{all-by-group, by-group-rising, no-group}
use Rattle.enc_file.proofs.Listed.{AreInOrder, AreListsRead, lists-read}
use Rattle.enc_file.proofs.Orders.{IsOrder, call-order, fate-order, leg-order, miss-order, plan-order}

-- The version is that of the header.
version-read : (last : Record) (earlier : List Record) → AreRead (last ∷ earlier) → IsVersion (version_of (last ∷ earlier))
version-read (said.Header version) [] read = read
version-read now [] read = absurd read
version-read (said.Header version) (last ∷ earlier) read = absurd read.1.format
version-read now (last ∷ earlier) read = version-read last earlier read.0

run-next : (earlier : List Record) (now : Record) → IfSome (run_of earlier) IsRunSaid → IsNext earlier now → IfSome (run_of (now ∷ earlier)) IsRunSaid
run-next earlier (said.Run run) before next = next.ranges
run-next earlier other before next = before

run-read : (earlier : List Record) → AreRead earlier → IfSome (run_of earlier) IsRunSaid
run-read = by-read (λ earlier. IfSome (run_of earlier) IsRunSaid) tt (λ version. tt) run-next

gains-next : (earlier : List Record) (now : Record) → IfSome (gains_of earlier) AreGainsSaid → IsNext earlier now → IfSome (gains_of (now ∷ earlier)) AreGainsSaid
gains-next earlier (said.Gains gains) before next = next.ranges
gains-next earlier other before next = before

gains-read : (earlier : List Record) → AreRead earlier → IfSome (gains_of earlier) AreGainsSaid
gains-read = by-read (λ earlier. IfSome (gains_of earlier) AreGainsSaid) tt (λ version. tt) gains-next

some-run : (o : Option Run) (other : Run) → is_none o ≡ false → IfSome o IsRunSaid → IsRunSaid (unwrap_or o other)
some-run None other is read = absurd (true≢false is)
some-run (Some run) other is read = read

some-gains : (o : Option TrackGains) → IfSome o AreGainsSaid → AreGainsSaid (unwrap_or o usual_gains)
some-gains None read = record { range = (omega arith, omega arith); altitude = (omega arith, omega arith) }
some-gains (Some gains) read = read

-- In format 1 there is neither a ceiling nor a plan.
plain-next : (earlier : List Record) (now : Record) → (version_of earlier ≡ 1 → IsPlain (crafts_of earlier) (plans_of earlier)) → IsNext earlier now
    → version_of (now ∷ earlier) ≡ 1 → IsPlain (crafts_of (now ∷ earlier)) (plans_of (now ∷ earlier))
plain-next earlier (said.Header version) before next is = absurd next.format
plain-next earlier (said.Craft craft) before next is =
    record { no_ceiling = All-push (λ (other : CraftSpec). other.ceiling ≡ None) (crafts_of earlier) craft (before is).no_ceiling next.ranges.ceiling; no_plan = (before is).no_plan }
plain-next earlier (said.Climb address limit) before next is = absurd (omega (arith, is, next.format))
plain-next earlier (said.Plan pair copies) before next is = absurd (omega (arith, is, next.format))
plain-next earlier other before next is = before is

nothing-plain : IsPlain [] []
nothing-plain = record { no_ceiling = All-nil (λ (other : CraftSpec). other.ceiling ≡ None); no_plan = refl }

plain-read : (earlier : List Record) → AreRead earlier → version_of earlier ≡ 1 → IsPlain (crafts_of earlier) (plans_of earlier)
plain-read = by-read (λ earlier. version_of earlier ≡ 1 → IsPlain (crafts_of earlier) (plans_of earlier)) (λ is. nothing-plain) (λ version is. nothing-plain) plain-next

some-active : (crafts : List CraftSpec) → list_any is_active crafts ≡ true → 1 ≤ length crafts
some-active [] is = absurd (false≢true is)
some-active (craft ∷ crafts) is = omega arith

are-crafts : (version : ℕ) (crafts : List CraftSpec) → AreCraftsRead version crafts → list_any is_active crafts ≡ true → AreCrafts version crafts
are-crafts version crafts read active = record { some = some-active crafts active; few = read.few; ranges = read.ranges; addresses = read.apart; active = active }

-- A list that was read is, group by group, a list of an encounter.
group-listed : {X : Type 0} (Fits : ℕ → X → Type 0) (group : X → ℕ) (groups : ℕ) (below : X → X → Bool) (count : ℕ) (xs : List X) → IsOrder (Fits count) group groups below
    → AreInOrder (Fits count) group below xs → AreListed Fits below count (by_group group groups xs)
group-listed {X} Fits group groups below count xs order read =
    (all-by-group (Fits count) group groups xs read.0, by-group-rising group below (Fits count) (λ a b. below a b ≡ true) groups xs read.0 read.1 rule) where
      rule : (a b : X) → Fits count a → Fits count b → group a ≤ group b → (group a ≡ group b → below a b ≡ true) → IsTrue (below a b)
      rule a b one two low same = elim (cases_lt (group a) (group b)) [
        | inl less ↦ order.between a b one two less
        | inr more ↦ same (omega (arith, low, more))
      ]

are-records : (count : ℕ) (xs : List Leg) (ys : List Miss) (zs : List LinkPlan) (ws : List Fate) → count ≤ CRAFTS → AreListsRead count xs ys zs ws
    → AreRecords count (by_group leg_group CRAFTS xs) (by_group miss_group (CRAFTS * CRAFTS) ys) (by_group plan_group (CRAFTS * CRAFTS) zs) (by_group fate_group (CRAFTS * CRAFTS) ws)
are-records count xs ys zs ws few read = record {
  legs = group-listed IsLeg leg_group CRAFTS leg_below count xs (leg-order count few) read.legs;
  misses = group-listed IsMiss miss_group (CRAFTS * CRAFTS) miss_below count ys (miss-order count few) read.misses;
  plans = group-listed IsPlan plan_group (CRAFTS * CRAFTS) plan_below count zs (plan-order count few) read.plans;
  fates = group-listed IsFate fate_group (CRAFTS * CRAFTS) fate_below count ws (fate-order count few) read.fates;
}

-- What a text says of itself.
record IsHeadingRead (heading : Heading) : Type 0 where
  name : IfSome heading.name (λ text. IsTrue (is_label text))
  clock : IfSome heading.clock (λ second. second < 86400)

heading-next : (earlier : List Record) (now : Record) → IsHeadingRead (heading_of earlier) → IsNext earlier now → IsHeadingRead (heading_of (now ∷ earlier))
heading-next earlier (said.Profile profile) before next = record { name = before.name; clock = before.clock }
heading-next earlier (said.Name text) before next = record { name = next.ranges; clock = before.clock }
heading-next earlier (said.Clock second) before next = record { name = before.name; clock = next.ranges }
heading-next earlier other before next = before

heading-read : (earlier : List Record) → AreRead earlier → IsHeadingRead (heading_of earlier)
heading-read = by-read (λ earlier. IsHeadingRead (heading_of earlier)) (record { name = tt; clock = tt }) (λ version. record { name = tt; clock = tt }) heading-next

-- In formats 1 and 2 it says nothing of itself, and there is no call sign.
older-next : (earlier : List Record) (now : Record) → (version_of earlier ≤ 2 → (heading_of earlier ≡ no_heading) × (calls_of earlier ≡ [])) → IsNext earlier now
    → version_of (now ∷ earlier) ≤ 2 → (heading_of (now ∷ earlier) ≡ no_heading) × (calls_of (now ∷ earlier) ≡ [])
older-next earlier (said.Header version) before next few = absurd next.format
older-next earlier (said.Profile profile) before next few = absurd (omega (arith, few, next.format))
older-next earlier (said.Name text) before next few = absurd (omega (arith, few, next.format))
older-next earlier (said.Clock second) before next few = absurd (omega (arith, few, next.format))
older-next earlier (said.Call address sign) before next few = absurd (omega (arith, few, next.format))
older-next earlier other before next few = before few

older-read : (earlier : List Record) → AreRead earlier → version_of earlier ≤ 2 → (heading_of earlier ≡ no_heading) × (calls_of earlier ≡ [])
older-read = by-read (λ earlier. version_of earlier ≤ 2 → (heading_of earlier ≡ no_heading) × (calls_of earlier ≡ [])) (λ few. (refl, refl)) (λ version few. (refl, refl)) older-next

are-unlabelled : (earlier : List Record) → AreRead earlier → version_of earlier ≤ 2 → IsUnlabelled (encounter_by earlier)
are-unlabelled earlier read few =
    let older = older-read earlier read few in
    record {
      profile = ap (λ (heading : Heading). unwrap_or heading.profile One) older.0;
      name = ap (λ (heading : Heading). heading.name) older.0;
      clock = ap (λ (heading : Heading). heading.clock) older.0;
      calls = no-group call_group CRAFTS (calls_of earlier) older.1;
    }

are-labels : (count : ℕ) (heading : Heading) (calls : List Call) → count ≤ CRAFTS → IsHeadingRead heading → AreCallsRead count calls → AreLabels count heading.name heading.clock (by_group call_group CRAFTS calls)
are-labels count heading calls few said read = record {
  name = said.name;
  clock = said.clock;
  calls = group-listed IsCall call_group CRAFTS call_below count calls (call-order count few) read.order;
  apart = calls-apart CRAFTS calls read.apart;
}

-- What was read is an encounter, where there are a run and an active aircraft.
pub encounter-said : (earlier : List Record) → AreRead earlier → is_none (run_of earlier) ≡ false → list_any is_active (crafts_of earlier) ≡ true → IsEncounter (encounter_by earlier)
encounter-said [] read given active = absurd (true≢false given)
encounter-said (last ∷ before) read given active =
    let earlier = last ∷ before in
    let run = some-run (run_of earlier) (record { cycles = 0; elevation = _ }) given (run-read earlier read) in
    let gains = some-gains (gains_of earlier) (gains-read earlier read) in
    let crafts = crafts-read earlier read in
    record {
      run = record { format = version-read last before read; length = run.cycles; terrain = run.elevation };
      range = gains.range;
      altitude = gains.altitude;
      crafts = are-crafts (version_of earlier) (crafts_of earlier) crafts active;
      format = λ is. record {
        no_ceiling = (plain-read earlier read is).no_ceiling;
        no_plan = no-group plan_group (CRAFTS * CRAFTS) (plans_of earlier) (plain-read earlier read is).no_plan;
      };
      older = λ few. are-unlabelled earlier read few;
      labels = are-labels (length (crafts_of earlier)) (heading_of earlier) (calls_of earlier) (omega (arith, crafts.few, most-few (version_of earlier))) (heading-read earlier read) (calls-read earlier read);
      records =
          are-records (length (crafts_of earlier)) (legs_of earlier) (misses_of earlier) (plans_of earlier) (fates_of earlier)
          (omega (arith, crafts.few, most-few (version_of earlier))) (lists-read earlier read);
    }
