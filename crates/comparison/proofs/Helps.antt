-- Aircraft that are compared one by one, and the position of a commit.
use Rattle.std.proofs.Common.{◌≡◌, ◌≢◌, eqb, eqb-true, eq-eqb, ℕ, suc, ◌+◌, ◌<◌, ◌≤◌, Bool, true, false, List, [], ◌∷◌, length, map, refl, sym, ap, ap₂, ◌∙◌, arith, inl, inr, option_map, Option, Some, None}
use Rattle.std.specs.Prelude.{MatchBool, is_none, is_some, not, reverse, slice_get}
use Rattle.std.proofs.lemmas.Bool.{cases_lt, cond-false, cond-true}
use Rattle.std.proofs.lemmas.List.{length-map}
use Rattle.std.proofs.lemmas.Option.{slice_get-map}
use Rattle.acas_base.specs.Strengths.{place_of}
use Rattle.acas_base.specs.declared.advisory.Cell.{Cell}
use Rattle.acas_base.specs.declared.advisory.Cell.TheVariants.{Ra}
use Rattle.acas_base.specs.declared.advisory.Intent.{Intent}
use Rattle.acas_base.specs.declared.advisory.Strength.{Strength}
use Rattle.acas_base.specs.declared.advisory.Strength.TheVariants.{Limit2000, Limit1000, Limit500, Level, Positive, Increase}
use Rattle.acas_base.specs.declared.entry.Entry.{Entry}
use Rattle.comparison.specs.Cells.{commit_at, is_commit_in}
use Rattle.journal_reader.proofs.Prefixes.{read-all, read-length, read-more, read-past, read-within}
use Rattle.journal_reader.specs.Reading.{read_of}

-- ---- lists that are mapped

pub same-maps : {X Y : Type 0} (f : X → Y) (xs ys : List X) → length xs ≡ length ys → ((k : ℕ) → k < length xs → option_map f (slice_get xs k) ≡ option_map f (slice_get ys k)) → map f xs ≡ map f ys
same-maps f [] [] n h = refl
same-maps f [] (y ∷ ys) n h = absurd (omega arith)
same-maps f (x ∷ xs) [] n h = absurd (omega arith)
same-maps f (x ∷ xs) (y ∷ ys) n h =
    let here : Some (f x) ≡ Some (f y) = h 0 (omega arith) in
    let one : f x ≡ f y = cc in
    ap₂ (λ z zs. z ∷ zs) one (same-maps f xs ys (omega arith) (λ k b. h (suc k) (omega arith)))

pub maps-at : {X Y : Type 0} (f : X → Y) (xs ys : List X) → map f xs ≡ map f ys → (k : ℕ) → option_map f (slice_get xs k) ≡ option_map f (slice_get ys k)
maps-at f xs ys e k = sym (slice_get-map f xs k) ∙ ap (λ zs. slice_get zs k) e ∙ slice_get-map f ys k

pub map-lengths : {X Y : Type 0} (f : X → Y) (xs ys : List X) → map f xs ≡ map f ys → length xs ≡ length ys
map-lengths f xs ys e = sym (length-map xs f) ∙ ap length e ∙ length-map ys f

pub maps-more : {X Y : Type 0} (f : X → Y) (xs ys : List X) (place : ℕ) (a b : X) → slice_get xs place ≡ Some a → slice_get ys place ≡ Some b → f a ≡ f b →
    ((k : ℕ) → k < place → option_map f (slice_get xs k) ≡ option_map f (slice_get ys k)) → (k : ℕ) → k < place + 1 → option_map f (slice_get xs k) ≡ option_map f (slice_get ys k)
maps-more f xs ys place a b p q e h k below = elim (cases_lt k place) [
  | inl less ↦ h k less
  | inr past ↦
      let same : k ≡ place = omega arith in
      ap (λ n. option_map f (slice_get xs n)) same ∙ ap (option_map f) p ∙ ap Some e ∙ sym (ap (λ n. option_map f (slice_get ys n)) same ∙ ap (option_map f) q)
]

pub maps-differ : {X Y : Type 0} (f : X → Y) (xs ys : List X) (place : ℕ) (a b : X) → slice_get xs place ≡ Some a → slice_get ys place ≡ Some b → map f xs ≡ map f ys → f a ≡ f b
maps-differ f xs ys place a b p q e = let same = sym (ap (option_map f) p) ∙ maps-at f xs ys e place ∙ ap (option_map f) q in cc

-- ---- the position of a commit

pub commit-step : (J : List Entry) (at own cycle : ℕ) (entry : Entry) (r : Bool) → slice_get (reverse J) at ≡ Some entry → r ≡ is_commit_in own cycle entry →
    MatchBool r (commit_at (read_of J (at + 1)) own cycle ≡ Some at) (commit_at (read_of J (at + 1)) own cycle ≡ commit_at (read_of J at) own cycle)
commit-step J at own cycle entry true is h =
    let within : at < length J = read-within J at entry is in
    ap (λ K. commit_at K own cycle) (read-more J at entry is) ∙ cond-true (is_commit_in own cycle entry) (Some (length (read_of J at))) (commit_at (read_of J at) own cycle) (sym h) ∙ ap Some (read-length J at (omega arith))
commit-step J at own cycle entry false is h =
    ap (λ K. commit_at K own cycle) (read-more J at entry is) ∙ cond-false (is_commit_in own cycle entry) (Some (length (read_of J at))) (commit_at (read_of J at) own cycle) (sym h)

pub commit-past : (J : List Entry) (at own cycle : ℕ) → slice_get (reverse J) at ≡ None → commit_at (read_of J (at + 1)) own cycle ≡ commit_at (read_of J at) own cycle
commit-past J at own cycle none =
    let past : length J ≤ at = read-past J at none in
    ap (λ K. commit_at K own cycle) (read-all J (at + 1) (omega arith) ∙ sym (read-all J at past))

-- ---- cells

place-same : (s t : Strength) → place_of s ≡ place_of t → s ≡ t
place-same Limit2000 Limit2000 e = refl
place-same Limit1000 Limit1000 e = refl
place-same Limit500 Limit500 e = refl
place-same Level Level e = refl
place-same Positive Positive e = refl
place-same Increase Increase e = refl
place-same s t e = absurd (omega arith)

-- Two strengths by their places.
pub place-decides : (s t : Strength) (m n : ℕ) → m ≡ place_of s → n ≡ place_of t → MatchBool (eqb m n) (s ≡ t) (s ≢ t)
place-decides s t m n p q = go (eqb m n) refl
  where
    go : (b : Bool) → b ≡ eqb m n → MatchBool b (s ≡ t) (s ≢ t)
    go true h = place-same s t (sym p ∙ eqb-true m n (sym h) ∙ q)
    go false h = λ e. absurd (let same : eqb m n ≡ true = eq-eqb m n (p ∙ ap place_of e ∙ sym q) in let t = h ∙ same in cc)

pub same-some : (one other : Option Cell) (a b : Cell) (r : Bool) → one ≡ Some a → other ≡ Some b → MatchBool r (a ≡ b) (a ≢ b) → MatchBool r (one ≡ other) (one ≢ other)
same-some one other a b true p q h = p ∙ ap Some h ∙ sym q
same-some one other a b false p q h = λ e. h (let same : Some a ≡ Some b = sym p ∙ e ∙ q in let is : a ≡ b = cc in is)

pub same-ra : (one other : Cell) (a b : Intent) (r : Bool) → one ≡ Ra a → other ≡ Ra b → MatchBool r (a ≡ b) (a ≢ b) → MatchBool r (one ≡ other) (one ≢ other)
same-ra one other a b true p q h = p ∙ ap Ra h ∙ sym q
same-ra one other a b false p q h = λ e. h (let same : Ra a ≡ Ra b = sym p ∙ e ∙ q in let is : a ≡ b = cc in is)

-- ---- nothing there

pub none-is : {X : Type 0} (o : Option X) (r : Bool) → is_some o ≡ not r → r ≡ is_none o
none-is None true h = refl
none-is None false h = absurd cc
none-is (Some x) true h = absurd cc
none-is (Some x) false h = refl
