-- Generated encounters.
use Rattle.std.proofs.Common.{◌≡◌, ℕ, ◌<◌, ◌≤◌, Bool, true, false, List, [], length, get_or, arith, refl, sym, ap, ◌∙◌, subst}
use Rattle.std.specs.Prelude.{map, nat_le, if◌then◌else◌}
use Rattle.std.specs.List.{flat_map}
use Rattle.std.proofs.lemmas.Bool.Decides.{nat_tests}
use Rattle.std.proofs.lemmas.Int.{ints}
use Rattle.std.proofs.lemmas.List.{get_or_default, length-map}
use Rattle.acas_base.specs.Encounter.{AreListed, IsEncounter, IsFate, IsMiss, IsVersion, encounter_of, most_crafts}
use Rattle.acas_base.specs.Order.{fate_below, miss_below}
use Rattle.acas_base.specs.Ranges.{IsCycle}
use Rattle.acas_base.specs.declared.craft.CraftSpec.{CraftSpec}
use Rattle.acas_base.specs.declared.craft.Leg.{Leg}
use Rattle.acas_base.specs.declared.craft.Miss.{Miss}
use Rattle.acas_base.specs.declared.label.Call.{Call}
use Rattle.acas_base.specs.declared.link.Fate.{Fate}
use Rattle.acas_base.specs.declared.link.LinkPlan.{LinkPlan}
use Rattle.acas_base.specs.declared.setting.Profile.{Profile}
use Rattle.acas_base.specs.declared.setting.Profile.TheVariants.{One, Two}
use Rattle.acas_base.specs.declared.setting.Setting.{Setting}
use Rattle.enc_gen.proofs.Drafts.{crafts-listed, crafts-plain, drafts-at, drafts-few, drafts-long, drafts-near, drafts-rise}
use Rattle.enc_gen.proofs.Fated.{fates-listed}
use Rattle.enc_gen.proofs.Legs.{legs-listed, legs-there}
use Rattle.enc_gen.proofs.Missed.{misses-listed}
use Rattle.enc_gen.proofs.Passing.{any-draft, aside-few, near-beside, placed-beside, placed-long}
use Rattle.enc_gen.proofs.Swinging.{stays-near}
use Rattle.enc_gen.specs.Crafts.{draft, legs_of, spec_of}
use Rattle.enc_gen.specs.Draws.{seed}
use Rattle.enc_gen.specs.Fates.{fates}
use Rattle.enc_gen.specs.Generated.{generated, setting_for, version_of}
use Rattle.enc_gen.specs.Making.{Makes, each}
use Rattle.enc_gen.specs.Misses.{misses}
use Rattle.enc_gen.specs.Near.{IsNear, StaysNear, reach}
use Rattle.enc_gen.specs.Passing.{most_aside, placed}
use Rattle.enc_gen.specs.declared.crafts.Draft.{Draft}
use Rattle.flight.proofs.Placing.{position-of}
use Rattle.flight.specs.Flight.{place_in, position, start_of}
use Rattle.flight.specs.Inside.{IsInBox, IsInside}
use Rattle.flight.specs.declared.place.Place.{Place}

-- The version suits the profile and the number of aircraft.
format-of : (profile : Profile) (n : ℕ) → IsVersion (version_of profile n)
format-of One n = by_test (nat_le n (most_crafts 1)) where
  by_test : (b : Bool) → IsVersion (if b then 1 else 2)
  by_test true = (omega arith, omega arith)
  by_test false = (omega arith, omega arith)
format-of Two n = (omega arith, omega arith)

few-enough : (profile : Profile) (n : ℕ) → n ≤ 16 → n ≤ most_crafts (version_of profile n)
few-enough One n few = by_test (nat_le n (most_crafts 1)) refl where
  by_test : (b : Bool) → nat_le n (most_crafts 1) ≡ b → n ≤ most_crafts (if b then 1 else 2)
  by_test true on = grind (arith, nat_tests)
  by_test false off = few
few-enough Two n few = few

older-profile : (profile : Profile) (n : ℕ) → version_of profile n ≤ 2 → profile ≡ One
older-profile One n early = refl
older-profile Two n early = absurd (omega arith)

pub made-near : (profile : Profile) (number crafts cycles : ℕ) → crafts ≤ 16 → IsCycle cycles → StaysNear (reach profile) (generated profile number crafts cycles)
unfolding generated
made-near profile number crafts cycles few run craft cycle within first last =
    let e = generated profile number crafts cycles in
    let drafts = each draft crafts (seed number) in
    let ds = drafts.items in
    let missed = misses (map spec_of ds) cycles drafts.state in
    let t = (fates (map spec_of ds) cycles missed.state).state in
    let d = get_or ds craft any-draft in
    let long : length ds ≡ crafts = drafts-long crafts (seed number) in
    let there : craft < length ds = omega (arith, within, placed-long profile ds t) in
    let spec = get_or (placed profile ds t) craft (spec_of d) in
    let is : spec ≡ get_or (placed profile ds t) craft spec = get_or_default (placed profile ds t) craft (spec_of d) spec within in
    let legs = legs-there cycles 0 ds craft craft any-draft (omega arith) (λ i e h. let is = drafts-at crafts (seed number) i e (omega arith) in omega (arith, is)) there in
    let Near : Place → Type 0 = λ p. IsNear (reach profile) p in
    subst Near (ap (λ l. place_in (start_of spec) l cycle) (sym legs) ∙ position-of e craft cycle spec within is)
    (near-beside (most_aside profile) (spec_of d) spec (legs_of cycles d) cycle (placed-beside profile ds t craft any-draft (spec_of d) there)
    (stays-near d cycle cycles (drafts-near crafts (seed number) craft any-draft there) first last run.1))

near-inside : (profile : Profile) (p : Place) → IsNear (reach profile) p → IsInBox p
near-inside profile p near =
    let few = aside-few profile in
    record {
      x = (omega (arith, ints, few, near.x.0), omega (arith, ints, few, near.x.1));
      y = (omega (arith, ints, few, near.y.0), omega (arith, ints, few, near.y.1));
      z = (omega (arith, ints, near.z.0, near.z.1), omega (arith, ints, near.z.0, near.z.1));
    }

pub made-inside : (profile : Profile) (number crafts cycles : ℕ) → crafts ≤ 16 → IsCycle cycles → IsInside (generated profile number crafts cycles)
made-inside profile number crafts cycles few run craft cycle within first last =
    near-inside profile (position (generated profile number crafts cycles) craft cycle) (made-near profile number crafts cycles few run craft cycle within first last)

pub made-valid : (profile : Profile) (number crafts cycles : ℕ) → 1 ≤ crafts → crafts ≤ 16 → IsCycle cycles → IsEncounter (generated profile number crafts cycles)
unfolding generated
made-valid profile number crafts cycles some few run =
    let drafts = each draft crafts (seed number) in
    let list = map spec_of drafts.items in
    let missed = misses list cycles drafts.state in
    let fated = fates list cycles missed.state in
    let begin = placed profile drafts.items fated.state in
    let version = version_of profile crafts in
    let many : length begin ≡ crafts = placed-long profile drafts.items fated.state ∙ drafts-long crafts (seed number) in
    let same : length list ≡ length begin = length-map drafts.items spec_of ∙ sym (placed-long profile drafts.items fated.state) in
    record {
      run = record { format = format-of profile crafts; length = run; terrain = (omega (arith, ints), omega (arith, ints)) };
      range = (omega arith, omega arith);
      altitude = (omega arith, omega arith);
      crafts = crafts-listed profile version crafts (seed number) fated.state some few (few-enough profile crafts few);
      format = λ first. record { no_ceiling = crafts-plain profile drafts.items fated.state; no_plan = refl };
      older = λ early. record { profile = older-profile profile crafts early; name = refl; clock = refl; calls = refl };
      labels = record {
        name = tt;
        clock = tt;
        calls = (λ k d h. absurd (omega arith), λ k d h. absurd (omega arith));
        apart = λ i j d order h. absurd (omega arith);
      };
      records = record {
        legs = legs-listed (length begin) cycles drafts.items (drafts-near crafts (seed number)) (λ k d h. let small = drafts-few crafts (seed number) k d h in omega (arith, many)) (drafts-rise crafts (seed number));
        misses = subst (λ (n : ℕ). AreListed IsMiss miss_below n missed.items) same (misses-listed list cycles drafts.state run);
        plans = (λ k d h. absurd (omega arith), λ k d h. absurd (omega arith));
        fates = subst (λ (n : ℕ). AreListed IsFate fate_below n fated.items) same (fates-listed list cycles missed.state run);
      };
    }

-- What is made, one list after another. It is given as the lists were returned (`ds`, `list`, `legs`, `missed`,
-- `fated`, `begin`), and as they were read.
pub record AreMade (profile : Profile) (number crafts cycles s t u v : ℕ) (ds dr ds2 ds3 : List Draft) (list one two begin : List CraftSpec) (legs : List Leg) (missed : List Miss) (fated : List Fate) : Type 0 where
  pub seeded : s ≡ seed number
  pub drawn : Makes (each draft crafts) s [] t ds
  pub read : dr ≡ ds
  pub listed : list ≡ map spec_of dr
  pub again : ds2 ≡ ds
  pub flown : legs ≡ flat_map (legs_of cycles) ds2
  pub first : one ≡ list
  pub miss : Makes (misses one cycles) t [] u missed
  pub second : two ≡ list
  pub fate : Makes (fates two cycles) u [] v fated
  pub third : ds3 ≡ ds
  pub begins : begin ≡ placed profile ds3 v

-- They make up the encounter.
pub parts-made : (profile : Profile) (number crafts cycles s t u v : ℕ) (ds dr ds2 ds3 : List Draft) (list one two begin : List CraftSpec) (legs : List Leg) (missed : List Miss) (fated : List Fate)
    → (setting : Setting) (calls : List Call) (plans : List LinkPlan) → AreMade profile number crafts cycles s t u v ds dr ds2 ds3 list one two begin legs missed fated
    → setting ≡ setting_for profile crafts cycles → calls ≡ [] → plans ≡ [] → encounter_of setting calls begin legs missed plans fated ≡ generated profile number crafts cycles
unfolding generated
parts-made profile number crafts cycles s t u v ds dr ds2 ds3 list one two begin legs missed fated setting calls plans made first uncalled none =
    rw (first, uncalled, none, made.begins, made.third, made.fate.state, made.fate.items, made.miss.state, made.miss.items, made.second, made.first, made.flown, made.listed, made.again, made.read, made.drawn.items, made.drawn.state, made.seeded) refl
