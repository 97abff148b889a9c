-- Lists of which each two elements are apart: aircraft of different addresses, and different call signs.
use Rattle.std.proofs.Common.{◌≡◌, ℕ, ◌+◌, ◌<◌, List, length, get_or, take, arith, inl, inr}
use Rattle.std.specs.Prelude.{All, AllPairs}
use Rattle.std.proofs.lemmas.Bool.{cases_lt}
use Rattle.std.proofs.lemmas.List.{get_or-take, get_or_read, length-take}

-- The elements below an index are apart, and the one there is apart from them.
pub apart-more : {X : Type 0} (Apart : X → X → Type 0) (xs : List X) (i : ℕ) (x : X) → i < length xs → x ≡ get_or xs i x
    → ((a b : ℕ) (d : X) → a < b → b < i → Apart (get_or xs a d) (get_or xs b d))
    → All (λ y. Apart y x) (take i xs)
    → (a b : ℕ) (d : X) → a < b → b < i + 1 → Apart (get_or xs a d) (get_or xs b d)
apart-more Apart xs i x within is below new a b d order top =
    elim (cases_lt b i) [
      | inl h ↦ below a b d order h
      | inr h ↦
          let here : b ≡ i = omega arith in
          let was : a < i = omega arith in
          let first = get_or-take i xs a d was in
          let last : x ≡ get_or xs b d = rw here (get_or_read xs i x within is d) in
          rw (← last, ← first) (new a d (rw length-take (omega arith)))
    ]

-- Where all are apart, each is apart from those before it.
pub apart-new : {X : Type 0} (Apart : X → X → Type 0) (xs : List X) (i : ℕ) (x : X) → i < length xs → x ≡ get_or xs i x → AllPairs Apart xs
    → All (λ y. Apart y x) (take i xs)
apart-new Apart xs i x within is apart k d short =
    let was : k < i = omega (arith, length-take i xs) in
    rw (get_or-take i xs k d was, get_or_read xs i x within is d) (apart k i d was within)
