-- Sums over lists.
use Rattle.std.proofs.Common.{◌≡◌, ◌≢◌, ℕ, zero, suc, ◌+◌, ◌≤◌, List, [], ◌∷◌, ◌++◌, length, map, set, refl, ap, sym, arith}
use mathlib.Core.Option.{some, some-injective, some-ne-none}
use lib.ListN.{get_elem?}
use Rattle.air_turn.specs.Totals.{total}

module _ {X : Type 0} where
  pub total-set : (f : X → ℕ) (l : List X) (i : ℕ) (v w : X) → get_elem? l i ≡ some v → total f (set l i w) + f v ≡ total f l + f w
  total-set f [] i v w e = absurd (some-ne-none v (sym e))
  total-set f (x ∷ xs) zero v w e = let same : f x ≡ f v = ap f (some-injective x v e) in omega arith
  total-set f (x ∷ xs) (suc i) v w e = let rest = total-set f xs i v w e in omega arith

  pub total-append : (f : X → ℕ) (xs ys : List X) → total f (xs ++ ys) ≡ total f xs + total f ys
  total-append f [] ys = omega arith
  total-append f (x ∷ xs) ys = let rest = total-append f xs ys in omega arith

  pub member-le : (f : X → ℕ) (l : List X) (i : ℕ) (v : X) → get_elem? l i ≡ some v → f v ≤ total f l
  member-le f [] i v e = absurd (some-ne-none v (sym e))
  member-le f (x ∷ xs) zero v e = let same : f x ≡ f v = ap f (some-injective x v e) in omega arith
  member-le f (x ∷ xs) (suc i) v e = let rest = member-le f xs i v e in omega arith

  pub pair-le : (f : X → ℕ) (l : List X) (i j : ℕ) (v w : X) → i ≢ j → get_elem? l i ≡ some v → get_elem? l j ≡ some w → f v + f w ≤ total f l
  pair-le f [] i j v w apart e d = absurd (some-ne-none v (sym e))
  pair-le f (x ∷ xs) zero zero v w apart e d = absurd (apart refl)
  pair-le f (x ∷ xs) zero (suc j) v w apart e d = let same : f x ≡ f v = ap f (some-injective x v e) in let rest = member-le f xs j w d in omega arith
  pair-le f (x ∷ xs) (suc i) zero v w apart e d = let same : f x ≡ f w = ap f (some-injective x w d) in let rest = member-le f xs i v e in omega arith
  pair-le f (x ∷ xs) (suc i) (suc j) v w apart e d = let rest = pair-le f xs i j v w (λ s. apart (ap suc s)) e d in omega arith

  pub total-le : (f g : X → ℕ) (l : List X) → ((j : ℕ) (v : X) → get_elem? l j ≡ some v → f v ≤ g v) → total f l ≤ total g l
  total-le f g [] h = omega arith
  total-le f g (x ∷ xs) h = let here : f x ≤ g x = h 0 x refl in let rest = total-le f g xs (λ j v e. h (suc j) v e) in omega arith

  total-none : (f : X → ℕ) (l : List X) → ((j : ℕ) (v : X) → get_elem? l j ≡ some v → f v ≡ 0) → total f l ≡ 0
  total-none f [] h = refl
  total-none f (x ∷ xs) h = let here : f x ≡ 0 = h 0 x refl in let rest = total-none f xs (λ j v e. h (suc j) v e) in omega arith

  -- Where one alone counts.
  pub total-only : (f : X → ℕ) (l : List X) (i : ℕ) (v : X) → get_elem? l i ≡ some v → ((j : ℕ) (u : X) → j ≢ i → get_elem? l j ≡ some u → f u ≡ 0) → total f l ≡ f v
  total-only f [] i v e h = absurd (some-ne-none v (sym e))
  total-only f (x ∷ xs) zero v e h = let same : f x ≡ f v = ap f (some-injective x v e) in let rest = total-none f xs (λ j u at. h (suc j) u (λ z. omega arith) at) in omega arith
  total-only f (x ∷ xs) (suc i) v e h = let here : f x ≡ 0 = h 0 x (λ z. omega arith) refl in let rest = total-only f xs i v e (λ j u ne at. h (suc j) u (λ z. ne (omega arith)) at) in omega arith

  pub total-zero : (xs : List X) → total (λ x. 0) xs ≡ 0
  total-zero [] = refl
  total-zero (x ∷ xs) = let rest = total-zero xs in omega arith

  pub total-ones : (xs : List X) → total (λ x. 1) xs ≡ length xs
  total-ones [] = refl
  total-ones (x ∷ xs) = let rest = total-ones xs in omega arith

pub total-map : {X Y : Type 0} (f : Y → ℕ) (g : X → Y) (l : List X) → total f (map g l) ≡ total (λ x. f (g x)) l
total-map f g [] = refl
total-map f g (x ∷ xs) = ap (λ n. f (g x) + n) (total-map f g xs)
