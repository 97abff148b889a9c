-- In the box leg by leg.
use Rattle.std.proofs.Common.{◌≡◌, ℕ, ◌+◌, ◌-◌, ◌<◌, ◌≤◌, List, length, get_or, sym, ◌∙◌, ap, subst, arith, inl, inr}
use Rattle.std.proofs.lemmas.Bool.{cases_lt}
use Rattle.acas_base.specs.declared.craft.Leg.{Leg}
use Rattle.flight.proofs.Along.{along, reach, still}
use Rattle.flight.proofs.Between.{between}
use Rattle.flight.proofs.Latest.{begins-le, begins-more, begins-some}
use Rattle.flight.specs.Bounds.{IsCourse, IsReachable, IsStart, begins, flown}
use Rattle.flight.specs.Flight.{place_in}
use Rattle.flight.specs.Inside.{IsInBox}
use Rattle.flight.specs.declared.place.Place.{Place}

-- The place when the first leg begins is the start.
pub place-first : (start : Place) (legs : List Leg) (cycle : ℕ) → IsCourse legs → 1 ≤ cycle → start ≡ place_in start legs (begins legs 0 cycle)
place-first start legs cycle course some = sym (still start legs cycle (begins legs 0 cycle) course (begins-some legs 0 cycle course some) (omega arith))

-- The place when the next leg begins.
pub place-more : (start place : Place) (legs : List Leg) (index cycle : ℕ) (d : Leg) → IsCourse legs → index < length legs → 1 ≤ cycle
    → place ≡ place_in start legs (begins legs index cycle)
    → flown place (get_or legs index d) (begins legs (index + 1) cycle - begins legs index cycle) ≡ place_in start legs (begins legs (index + 1) cycle)
place-more start place legs index cycle d course within some is =
    ap (λ p. flown p (get_or legs index d) (begins legs (index + 1) cycle - begins legs index cycle)) is
    ∙ sym (along start legs index cycle (begins legs (index + 1) cycle) d course within some (begins-more legs index cycle course within) (omega arith))

-- Each of these places is in reach.
pub place-reach : (start place : Place) (legs : List Leg) (index cycle : ℕ) → IsStart start → IsCourse legs → cycle ≤ 600
    → place ≡ place_in start legs (begins legs index cycle) → IsReachable place
place-reach start place legs index cycle near course late is =
    let early = begins-le legs index cycle in
    let P : Place → Type 0 = λ p. IsReachable p in
    subst P (sym is) (reach start legs (begins legs index cycle) near course (omega (arith, early)))

abbrev pub StaysTo : Place → List Leg → ℕ → Type 0
StaysTo start legs last = (cycle : ℕ) → 1 ≤ cycle → cycle ≤ last → IsInBox (place_in start legs cycle)

pub stays-first : (start : Place) (legs : List Leg) (cycle : ℕ) → IsCourse legs → IsInBox start → StaysTo start legs (begins legs 0 cycle)
stays-first start legs cycle course here k some early =
    let P : Place → Type 0 = λ p. IsInBox p in
    subst P (sym (still start legs cycle k course some early)) here

-- What leaves the box at the start of a leg leaves it.
pub stays-at : (start place : Place) (legs : List Leg) (index cycle : ℕ) → IsCourse legs → 1 ≤ cycle
    → place ≡ place_in start legs (begins legs index cycle) → StaysTo start legs cycle → IsInBox place
stays-at start place legs index cycle course some is stays =
    let P : Place → Type 0 = λ p. IsInBox p in
    subst P (sym is) (stays (begins legs index cycle) (begins-some legs index cycle course some) (begins-le legs index cycle))

-- In the box until a leg begins, and when the next one does.
pub stays-more : (start place : Place) (legs : List Leg) (index cycle : ℕ) (d : Leg) → IsCourse legs → index < length legs → 1 ≤ cycle
    → place ≡ place_in start legs (begins legs index cycle) → StaysTo start legs (begins legs index cycle)
    → IsInBox (flown place (get_or legs index d) (begins legs (index + 1) cycle - begins legs index cycle))
    → StaysTo start legs (begins legs (index + 1) cycle)
stays-more start place legs index cycle d course within some is stays next k first last = elim (cases_lt (begins legs index cycle) k) [
  | inl h ↦
      let P : Place → Type 0 = λ p. IsInBox p in
      let leg = get_or legs index d in
      let b = begins legs index cycle in
      let here : IsInBox place = subst P (sym is) (stays b (begins-some legs index cycle course some) (omega arith)) in
      let there = between place leg (k - b) (begins legs (index + 1) cycle - b) (omega arith) here next in
      subst P (ap (λ p. flown p leg (k - b)) is ∙ sym (along start legs index cycle k d course within some (omega arith) last)) there
  | inr h ↦ stays k first h
]

-- The two, for the place after a leg.
pub place-next : (start place next : Place) (legs : List Leg) (index cycle seconds : ℕ) (d : Leg) → IsCourse legs → index < length legs → 1 ≤ cycle
    → place ≡ place_in start legs (begins legs index cycle) → seconds ≡ begins legs (index + 1) cycle - begins legs index cycle
    → next ≡ flown place (get_or legs index d) seconds → next ≡ place_in start legs (begins legs (index + 1) cycle)
place-next start place next legs index cycle seconds d course within some is long moved =
    moved ∙ ap (flown place (get_or legs index d)) long ∙ place-more start place legs index cycle d course within some is

pub stays-next : (start place next : Place) (legs : List Leg) (index cycle seconds : ℕ) (d : Leg) → IsCourse legs → index < length legs → 1 ≤ cycle
    → place ≡ place_in start legs (begins legs index cycle) → seconds ≡ begins legs (index + 1) cycle - begins legs index cycle
    → next ≡ flown place (get_or legs index d) seconds → StaysTo start legs (begins legs index cycle) → IsInBox next → StaysTo start legs (begins legs (index + 1) cycle)
stays-next start place next legs index cycle seconds d course within some is long moved stays here =
    let P : Place → Type 0 = λ p. IsInBox p in
    stays-more start place legs index cycle d course within some is stays (subst P (moved ∙ ap (flown place (get_or legs index d)) long) here)
