-- What follows from equal sights.
use Rattle.std.proofs.Common.{◌≡◌, ℕ, zero, suc, ◌≤◌, Bool, true, false, List, [], ◌∷◌, length, Option, Some, None, refl, sym, ◌∙◌, ap, arith, inl, inr}
use Rattle.std.specs.Prelude.{◌==◌, if◌then◌else◌, is_some, option_map, slice_get}
use Rattle.std.proofs.lemmas.Bool.{cases_lt}
use Rattle.std.proofs.lemmas.Bool.Decides.{nat_tests}
use Rattle.acas_base.specs.Encounter.{Parts}
use Rattle.acas_base.specs.declared.advisory.Rank.{Rank}
use Rattle.acas_base.specs.declared.craft.CraftSpec.{CraftSpec}
use Rattle.craft_view.specs.Facts.{IsAlike, SeesAlike}
use Rattle.craft_view.specs.Sight.{Other, Sight, known_of, other_craft, rank_of, sight_of}
use Rattle.craft_view.specs.Views.{view_in}

-- All but the newest.
abbrev older : {X : Type 0} → List X → List X
older [] = []
older (x ∷ xs) = xs

-- What was known of another aircraft a cycle earlier, and all that was.
abbrev other-before : Other → Other
other-before other = record { kind = other.kind; rank = other.rank; seen = older other.seen }

abbrev sight-before : Sight → Sight
sight-before s = record {
  profile = s.profile;
  range = s.range;
  altitude = s.altitude;
  elevation = s.elevation;
  kind = s.kind;
  ceiling = s.ceiling;
  own = older s.own;
  others = λ index. option_map other-before (s.others index);
}

before-is : (e : Parts) (own cycle : ℕ) → sight-before (sight_of e own (suc cycle)) ≡ sight_of e own cycle
before-is e own cycle = λ i. record {
  profile = e.profile;
  range = e.range;
  altitude = e.altitude;
  elevation = e.elevation;
  kind = (sight_of e own cycle).kind;
  ceiling = (sight_of e own cycle).ceiling;
  own = (sight_of e own cycle).own;
  others = λ index. others index i;
}
  where
    by_craft : (index : ℕ) (o : Option CraftSpec) → option_map other-before (option_map (known_of e own (suc cycle) index) o) ≡ option_map (known_of e own cycle index) o
    by_craft index None = refl
    by_craft index (Some craft) = refl

    others : (index : ℕ) → option_map other-before (option_map (known_of e own (suc cycle) index) (other_craft e own index)) ≡ option_map (known_of e own cycle index) (other_craft e own index)
    others index = by_craft index (other_craft e own index)

-- Equal sights were equal in each cycle before.
earlier : (e f : Parts) (own cycle k : ℕ) → k ≤ cycle → SeesAlike e f own cycle → SeesAlike e f own k
earlier e f own zero zero within alike = alike
earlier e f own zero (suc k) within alike = absurd (omega arith)
earlier e f own (suc n) k within alike = elim (cases_lt k (suc n)) [
  | inl h ↦ earlier e f own n k (omega arith) (sym (before-is e own n) ∙ ap sight-before alike ∙ before-is f own n)
  | inr h ↦ let same : suc n ≡ k = omega arith in rw (← same) alike
]

abbrev rank_known : Sight → ℕ → Option Rank
rank_known s index = option_map (λ (other : Other). other.rank) (s.others index)

rank-is : (e : Parts) (own cycle index : ℕ) → rank_known (sight_of e own cycle) index ≡ rank_of e own index
rank-is e own cycle index = by_craft (other_craft e own index)
  where
    by_craft : (o : Option CraftSpec) → option_map (λ (other : Other). other.rank) (option_map (known_of e own cycle index) o) ≡ option_map (λ (craft : CraftSpec). (known_of e own cycle index craft).rank) o
    by_craft None = refl
    by_craft (Some craft) = refl

-- An aircraft is at an index: another one, or own aircraft.
abbrev is_known : Sight → ℕ → ℕ → Bool
is_known s own index = if index == own then is_some s.kind else is_some (s.others index)

some-map : {X Y : Type 0} (f : X → Y) (o : Option X) → is_some (option_map f o) ≡ is_some o
some-map f None = refl
some-map f (Some x) = refl

same-index : (a b : ℕ) → (a == b) ≡ true → b ≡ a
same-index a b h = grind (arith, nat_tests)

known-is : (e : Parts) (own cycle index : ℕ) → is_known (sight_of e own cycle) own index ≡ is_some (slice_get e.crafts index)
known-is e own cycle index = by_test (index == own) refl
  where
    by_test : (t : Bool) → (index == own) ≡ t
        → (if t then is_some (option_map (λ (craft : CraftSpec). craft.kind) (slice_get e.crafts own)) else is_some (option_map (known_of e own cycle index) (if t then None else slice_get e.crafts index)))
        ≡ is_some (slice_get e.crafts index)
    by_test true is = some-map (λ (craft : CraftSpec). craft.kind) (slice_get e.crafts own) ∙ ap (λ n. is_some (slice_get e.crafts n)) (same-index index own is)
    by_test false is = some-map (known_of e own cycle index) (slice_get e.crafts index)

count-same : (xs ys : List CraftSpec) → ((index : ℕ) → is_some (slice_get xs index) ≡ is_some (slice_get ys index)) → length xs ≡ length ys
count-same [] [] same = refl
count-same [] (y ∷ ys) same = absurd (cc (same 0))
count-same (x ∷ xs) [] same = absurd (cc (same 0))
count-same (x ∷ xs) (y ∷ ys) same = ap (λ n. suc n) (count-same xs ys (λ index. same (suc index)))

pub sights-alike : (e f : Parts) (own cycle : ℕ) → SeesAlike e f own cycle → IsAlike e f own cycle
sights-alike e f own cycle alike = record {
  views = λ target k within. ap (λ (s : Sight). view_in s target) (earlier e f own cycle k within alike);
  ranks = λ target. sym (rank-is e own cycle target) ∙ ap (λ (s : Sight). rank_known s target) alike ∙ rank-is f own cycle target;
  count = count-same e.crafts f.crafts
      (λ index. sym (known-is e own cycle index) ∙ ap (λ (s : Sight). is_known s own index) alike ∙ known-is f own cycle index);
}
