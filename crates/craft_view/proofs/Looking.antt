-- The aircraft of an encounter look, one after the other.
use Rattle.std.proofs.Common.{◌≡◌, ℕ, zero, suc, ◌+◌, ◌<◌, true, List, [], ◌∷◌, length, set, get_or, Option, Some, None, is_some, sym, refl, ap, ◌∙◌, subst, inl, inr, arith, get_or-set_same, get_or-set_other}
use Rattle.std.proofs.lemmas.Bool.{cases_eq}
use Rattle.acas_base.specs.Encounter.{Parts}
use Rattle.acas_base.specs.declared.TheConstants.{CRAFTS}
use Rattle.acas_base.specs.declared.view.Picture.{Picture}
use Rattle.craft_view.specs.Kept.{IsActive, Kept}
use Rattle.craft_view.specs.Looking.{AreReady, HasLooked, IsReady, LookedOn, LooksNext, MayLook}
use Rattle.craft_view.specs.Views.{picture_of}
use Rattle.flight.specs.Flight.{Moment}

abbrev pub moment : Parts → ℕ → Moment
moment e cycle = record { encounter = e; cycle = cycle }

-- What has looked is active.
looked-active : (e : Parts) (own looks : ℕ) (craft : Kept) → HasLooked e own looks craft → IsActive e own
looked-active e own looks craft h = subst (IsActive e) h.own_is h.belongs.active

pub ready-none : (e : Parts) (own looks : ℕ) → (IsActive e own → ⊥) → IsReady e own looks None
unfolding IsReady
ready-none e own looks never = never

-- The number of looks counts for an active aircraft alone.
ready-with : (e : Parts) (own one two : ℕ) (o : Option Kept) → (IsActive e own → one ≡ two) → IsReady e own one o → IsReady e own two o
unfolding IsReady
ready-with e own one two None same r = r
ready-with e own one two (Some craft) same r = subst (λ (k : ℕ). HasLooked e own k craft) (same (looked-active e own one craft r)) r

pub ready-same : (e : Parts) (looks later : ℕ → ℕ) (crafts : List (Option Kept)) → ((own : ℕ) → IsActive e own → looks own ≡ later own) → AreReady e looks crafts → AreReady e later crafts
ready-same e looks later crafts same r = λ own h. ready-with e own (looks own) (later own) (get_or crafts own None) (same own) (r own h)

-- What stands at one place changes, and the numbers of looks of the other aircraft don't.
pub ready-set : (e : Parts) (looks later : ℕ → ℕ) (crafts : List (Option Kept)) (own : ℕ) (craft : Option Kept) → own < length crafts → ((a : ℕ) → (own ≡ a → ⊥) → looks a ≡ later a) →
    AreReady e looks crafts → IsReady e own (later own) craft → AreReady e later (set crafts own craft)
ready-set e looks later crafts own craft n same r h = λ a ha. elim (cases_eq own a) [
  | inl p ↦ subst (λ (k : ℕ). IsReady e k (later k) (get_or (set crafts own craft) k None)) p
      (subst (λ (o : Option Kept). IsReady e own (later own) o) (sym (get_or-set_same crafts own craft None n)) h)
  | inr ne ↦ subst (λ (o : Option Kept). IsReady e a (later a) o) (sym (get_or-set_other crafts own a craft None (λ q. ne (sym q))))
      (subst (λ (k : ℕ). IsReady e a k (get_or crafts a None)) (same a ne) (r a ha))
]

-- An active aircraft is there.
pub ready-some : (e : Parts) (looks : ℕ → ℕ) (crafts : List (Option Kept)) (own : ℕ) → own < CRAFTS → AreReady e looks crafts → IsActive e own → is_some (get_or crafts own None) ≡ true
unfolding IsReady
ready-some e looks crafts own ho r a = go (get_or crafts own None) (r own ho)
  where
    go : (o : Option Kept) → IsReady e own (looks own) o → is_some o ≡ true
    go None h = absurd (h a)
    go (Some craft) h = refl

-- Who has looked so often may look in the next cycle.
pub may-look : (e : Parts) (looks : ℕ → ℕ) (crafts : List (Option Kept)) (own made : ℕ) (m : Moment) → m ≡ moment e (made + 1) → own < CRAFTS → AreReady e looks crafts → (IsActive e own → looks own ≡ made) → MayLook m own (get_or crafts own None)
unfolding IsReady
may-look e looks crafts own made m em ho r same = go (get_or crafts own None) (r own ho)
  where
    go : (o : Option Kept) → IsReady e own (looks own) o → MayLook m own o
    go None h = tt
    go (Some craft) h = subst (λ (x : Moment). LooksNext x own craft) (sym em) (record {
      looks = looks own;
      looked = h;
      next = ap (λ (n : ℕ). n + 1) (sym (same (looked-active e own (looks own) craft h)));
    })

within : (xs : List (Option Kept)) (k : ℕ) (x : Kept) → get_or xs k None ≡ Some x → k < length xs
within [] k x e = absurd (cc)
within (y ∷ ys) zero x e = omega arith
within (y ∷ ys) (suc k) x e = let h : k < length ys = within ys k x e in omega arith

looked-ready : (e : Parts) (own looks : ℕ) (craft : Kept) → HasLooked e own looks craft → IsReady e own looks (Some craft)
unfolding IsReady
looked-ready e own looks craft h = h

-- After its look it is ready again.
pub ready-after : (e : Parts) (looks later : ℕ → ℕ) (old new : List (Option Kept)) (own : ℕ) (picture : Picture) (m : Moment) → m ≡ moment e (later own) → ((a : ℕ) → (own ≡ a → ⊥) → looks a ≡ later a) →
    AreReady e looks old → LookedOn m own old new picture → AreReady e later new
ready-after e looks later old new own picture m em same r l =
    let looked : HasLooked e own (later own) l.craft = subst (λ (x : Moment). HasLooked x.encounter own x.cycle l.craft) em l.looked in
    subst (λ (xs : List (Option Kept)). AreReady e later xs) (sym l.new_is)
    (ready-set e looks later old own (Some l.craft) (within old own l.before l.was_there) same r (looked-ready e own (later own) l.craft looked))

pub picture-after : (e : Parts) (own cycle : ℕ) (old new : List (Option Kept)) (picture : Picture) (m : Moment) → m ≡ moment e cycle → LookedOn m own old new picture → picture ≡ picture_of e own cycle
picture-after e own cycle old new picture m em l = l.picture_is ∙ ap (λ (x : Moment). picture_of x.encounter own x.cycle) em
