-- There is one variant for each change.
use Rattle.std.proofs.Common.{◌≡◌, ℕ, ◌<◌, ◌≤◌, ℤ, List, length, get_or, set, Option, Some, None, Result, Ok, Err, refl, sym, ap, ◌∙◌, arith, subst}
use Rattle.std.specs.Prelude.{IfOk}
use Rattle.std.specs.declared.alloc.AllocError.{AllocError}
use Rattle.std.proofs.lemmas.List.{get_or-set_same, length-set}
use Rattle.acas_base.specs.Encounter.{IsCraft, IsEncounter, Parts, encounter_of, setting_of}
use Rattle.acas_base.specs.declared.craft.CraftSpec.{CraftSpec}
use Rattle.acas_base.specs.declared.craft.Leg.{Leg}
use Rattle.acas_base.specs.declared.craft.Miss.{Miss}
use Rattle.acas_base.specs.declared.label.Call.{Call}
use Rattle.acas_base.specs.declared.link.Fate.{Fate}
use Rattle.acas_base.specs.declared.link.LinkPlan.{LinkPlan}
use Rattle.acas_base.specs.declared.setting.Setting.{Setting}
use Rattle.leg_rows.specs.Flights.{at_place}
use Rattle.variants.specs.Exchanges.{IsExchanged, exchanged}
use Rattle.variants.specs.Flights.{IsLate, IsMoved, IsSameRun, IsShifted, late_place, late_places, moved, with_craft, with_legs}
use Rattle.variants.specs.Losses.{IsLossy, with_losses}
use Rattle.variants.proofs.Later.{craft-there}
use Rattle.variants.specs.Made.{IsFit, IsMade, with_parts}
use Rattle.variants.specs.Variants.{IsAnswer, IsVaried, OneVariant}
use Rattle.variants.specs.declared.change.Axis.{Axis}
use Rattle.variants.specs.declared.change.Change.{Change}
use Rattle.variants.specs.declared.change.Change.TheVariants.{Exchanged, Lost, Shifted}
use Rattle.variants.specs.declared.change.Exchange.{Exchange}
use Rattle.variants.specs.declared.change.Loss.{Loss}
use Rattle.variants.specs.declared.change.Quantity.{Quantity}
use Rattle.variants.specs.declared.change.Quantity.TheVariants.{Late, Start}

-- The aircraft, legs and fates of a variant.
abbrev shift_crafts : Parts → Quantity → ℕ → ℤ → List CraftSpec
shift_crafts e (Start axis) craft value = with_craft craft (moved axis value) e.crafts
shift_crafts e Late craft value = with_craft craft (λ spec. at_place spec (late_place e craft value 1)) e.crafts

abbrev shift_legs : Parts → Quantity → ℕ → ℤ → List Leg
shift_legs e (Start axis) craft value = e.legs
shift_legs e Late craft value = with_legs craft (late_places e craft value) e.legs

abbrev pub varied_parts : Parts → Change → Parts
varied_parts e (Shifted shift) = with_parts e (shift_crafts e shift.quantity shift.craft shift.value) (shift_legs e shift.quantity shift.craft shift.value) e.fates
varied_parts e (Lost loss) = with_parts e e.crafts e.legs (with_losses loss e.fates)
varied_parts e (Exchanged pair) = with_parts e (exchanged pair e.crafts) e.legs e.fates

same-parts : (e d : Parts) (crafts : List CraftSpec) (legs : List Leg) (fates : List Fate) → IsSameRun d e → d.crafts ≡ crafts → d.legs ≡ legs → d.misses ≡ e.misses → d.plans ≡ e.plans → d.fates ≡ fates
    → d ≡ with_parts e crafts legs fates
same-parts e d crafts legs fates run a b m p f = grind (arith, run.version, run.profile, run.cycles, run.terrain, run.range, run.altitude, run.name, run.clock, run.calls, a, b, m, p, f)

shifted-parts : (e d : Parts) (quantity : Quantity) (craft : ℕ) (value : ℤ) → IsShifted e quantity craft value d → d ≡ with_parts e (shift_crafts e quantity craft value) (shift_legs e quantity craft value) e.fates
shifted-parts e d (Start axis) craft value is = same-parts e d _ _ _ is.run is.crafts is.legs is.misses is.plans is.fates
shifted-parts e d Late craft value is = same-parts e d _ _ _ is.run is.crafts is.legs is.misses is.plans is.fates

-- A variant has these parts.
pub varied-is : (e : Parts) (change : Change) (d : Parts) → IsVaried e change d → d ≡ varied_parts e change
varied-is e (Shifted shift) d is = shifted-parts e d shift.quantity shift.craft shift.value is
varied-is e (Lost loss) d is = same-parts e d _ _ _ is.run is.crafts is.legs is.misses is.plans is.fates
varied-is e (Exchanged pair) d is = same-parts e d _ _ _ is.run is.crafts is.legs is.misses is.plans is.fates

pub one-variant : OneVariant
one-variant e change c d one two = varied-is e change c one ∙ sym (varied-is e change d two)

-- The parts of which a variant is made.
pub parts-made : (e : Parts) (setting : Setting) (calls : List Call) (crafts : List CraftSpec) (legs : List Leg) (misses : List Miss) (plans : List LinkPlan) (fates : List Fate)
    → setting ≡ setting_of e → calls ≡ e.calls → misses ≡ e.misses → plans ≡ e.plans
    → encounter_of setting calls crafts legs misses plans fates ≡ with_parts e crafts legs fates
parts-made e setting calls crafts legs misses plans fates s c m p = rw (s, c, m, p) refl

same-run : (e : Parts) (crafts : List CraftSpec) (legs : List Leg) (fates : List Fate) → IsSameRun (with_parts e crafts legs fates) e
same-run e crafts legs fates = record {
  version = refl;
  profile = refl;
  cycles = refl;
  terrain = refl;
  range = refl;
  altitude = refl;
  name = refl;
  clock = refl;
  calls = refl;
}

pub is-moved : (e : Parts) (craft : ℕ) (axis : Axis) (feet : ℤ) → craft < length e.crafts → IsMoved e craft axis feet (with_parts e (with_craft craft (moved axis feet) e.crafts) e.legs e.fates)
is-moved e craft axis feet there = record { run = same-run e _ _ _; there = there; crafts = refl; legs = refl; misses = refl; plans = refl; fates = refl }

pub is-late : (e : Parts) (craft : ℕ) (late : ℤ) → craft < length e.crafts
    → IsLate e craft late (with_parts e (with_craft craft (λ spec. at_place spec (late_place e craft late 1)) e.crafts) (with_legs craft (late_places e craft late) e.legs) e.fates)
is-late e craft late there = record { run = same-run e _ _ _; there = there; crafts = refl; legs = refl; misses = refl; plans = refl; fates = refl }

pub is-lossy : (e : Parts) (loss : Loss) → loss.first ≤ loss.last → IsLossy e loss (with_parts e e.crafts e.legs (with_losses loss e.fates))
is-lossy e loss order = record { run = same-run e _ _ _; order = order; crafts = refl; legs = refl; misses = refl; plans = refl; fates = refl }

pub is-exchanged : (e : Parts) (pair : Exchange) → pair.one < length e.crafts → pair.two < length e.crafts → IsExchanged e pair (with_parts e (exchanged pair e.crafts) e.legs e.fates)
is-exchanged e pair one two = record { run = same-run e _ _ _; one = one; two = two; crafts = refl; legs = refl; misses = refl; plans = refl; fates = refl }

-- What is made of the parts of a variant is the answer.
pub answered : (e : Parts) (change : Change) (made : Option Parts) → IsVaried e change (varied_parts e change) → IsMade (varied_parts e change) made → IsAnswer e change made
answered e change None varied none = λ d v. none (subst IsFit (varied-is e change d v.varied) (record { encounter = v.encounter; inside = v.inside }))
answered e change (Some d) varied is = record { encounter = is.1.encounter; inside = is.1.inside; varied = subst (λ (p : Parts). IsVaried e change p) (sym is.0) varied }

pub answered-by : (e : Parts) (change : Change) (parts : Parts) (r : Result (Option Parts) AllocError) → parts ≡ varied_parts e change → IsVaried e change (varied_parts e change)
    → IfOk r (λ made. IsMade parts made) → IfOk r (λ made. IsAnswer e change made)
answered-by e change parts (Ok made) same varied is = answered e change made varied (subst (λ p. IsMade p made) same is)
answered-by e change parts (Err error) same varied is = tt

-- Where the moved aircraft is out of its ranges there is none.
pub none-moved : (e d : Parts) (craft : ℕ) (axis : Axis) (feet : ℤ) (spec : CraftSpec) → spec ≡ get_or e.crafts craft spec → (IsCraft (moved axis feet spec) → ⊥) → IsEncounter d → IsMoved e craft axis feet d → ⊥
none-moved e d craft axis feet spec here none is varied =
    let crafts : d.crafts ≡ set e.crafts craft (moved axis feet spec) = varied.crafts ∙ craft-there e.crafts craft (moved axis feet) spec varied.there ∙ ap (λ s. set e.crafts craft (moved axis feet s)) (sym here) in
    let within : craft < length d.crafts = omega (arith, ap length crafts, length-set e.crafts craft (moved axis feet spec), varied.there) in
    none (subst IsCraft (ap (λ l. get_or l craft spec) crafts ∙ get_or-set_same e.crafts craft (moved axis feet spec) spec varied.there) (is.crafts.ranges craft spec within))
