-- A list of five, and one of six, from their items.
use Rattle.std.proofs.Common.{◌≡◌, ◌≤◌, ◌<◌, List, [], ◌∷◌, length, map, get_or, sym, arith}

module _ {X Y : Type 0} (f : X → Y) (a b c d e : X) where
  pub map-five : (xs : List X) → 5 ≤ length xs → length xs < 6 → a ≡ get_or xs 0 a → b ≡ get_or xs 1 b → c ≡ get_or xs 2 c → d ≡ get_or xs 3 d → e ≡ get_or xs 4 e → map f xs ≡ f a ∷ f b ∷ f c ∷ f d ∷ f e ∷ []
  map-five [] low high ia ib ic id ie = absurd (omega arith)
  map-five (v ∷ []) low high ia ib ic id ie = absurd (omega arith)
  map-five (v ∷ w ∷ []) low high ia ib ic id ie = absurd (omega arith)
  map-five (v ∷ w ∷ x ∷ []) low high ia ib ic id ie = absurd (omega arith)
  map-five (v ∷ w ∷ x ∷ y ∷ []) low high ia ib ic id ie = absurd (omega arith)
  map-five (v ∷ w ∷ x ∷ y ∷ z ∷ []) low high ia ib ic id ie = λ i. f (sym ia i) ∷ f (sym ib i) ∷ f (sym ic i) ∷ f (sym id i) ∷ f (sym ie i) ∷ []
  map-five (v ∷ w ∷ x ∷ y ∷ z ∷ more ∷ xs) low high ia ib ic id ie = absurd (omega arith)

module _ {X Y : Type 0} (f : X → Y) (a b c d e g : X) where
  pub map-six : (xs : List X) → 6 ≤ length xs → length xs < 7 → a ≡ get_or xs 0 a → b ≡ get_or xs 1 b → c ≡ get_or xs 2 c → d ≡ get_or xs 3 d → e ≡ get_or xs 4 e → g ≡ get_or xs 5 g → map f xs ≡ f a ∷ f b ∷ f c ∷ f d ∷ f e ∷ f g ∷ []
  map-six [] low high ia ib ic id ie ig = absurd (omega arith)
  map-six (v ∷ []) low high ia ib ic id ie ig = absurd (omega arith)
  map-six (v ∷ w ∷ []) low high ia ib ic id ie ig = absurd (omega arith)
  map-six (v ∷ w ∷ x ∷ []) low high ia ib ic id ie ig = absurd (omega arith)
  map-six (v ∷ w ∷ x ∷ y ∷ []) low high ia ib ic id ie ig = absurd (omega arith)
  map-six (v ∷ w ∷ x ∷ y ∷ z ∷ []) low high ia ib ic id ie ig = absurd (omega arith)
  map-six (v ∷ w ∷ x ∷ y ∷ z ∷ u ∷ []) low high ia ib ic id ie ig = λ i. f (sym ia i) ∷ f (sym ib i) ∷ f (sym ic i) ∷ f (sym id i) ∷ f (sym ie i) ∷ f (sym ig i) ∷ []
  map-six (v ∷ w ∷ x ∷ y ∷ z ∷ u ∷ more ∷ xs) low high ia ib ic id ie ig = absurd (omega arith)
