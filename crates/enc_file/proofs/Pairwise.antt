-- Lists of which each element stands in a relation to all those after it.
use Rattle.std.proofs.Common.{◌≡◌, ℕ, suc, ◌<◌, Bool, true, false, List, [], ◌∷◌, ◌++◌, length, get_or, refl, sym, subst, arith, add-one}
use Rattle.std.specs.List.{AllByRecursion, list_any}
use Rattle.std.proofs.lemmas.List.Elements.{recursion_from_All}
use Rattle.acas_base.specs.Order.{IsRising}

abbrev pub Pairs : {X : Type 0} → (X → X → Type 0) → List X → Type 0
Pairs R [] = Unit {0}
Pairs R (x ∷ xs) = AllByRecursion (R x) xs × Pairs R xs

pub all-weaken : {X : Type 0} (P Q : X → Type 0) → ((x : X) → P x → Q x) → (xs : List X) → AllByRecursion P xs → AllByRecursion Q xs
all-weaken P Q f [] h = tt
all-weaken P Q f (x ∷ xs) h = (f x h.0, all-weaken P Q f xs h.1)

pub pairs-weaken : {X : Type 0} (P : X → Type 0) (R S : X → X → Type 0) → ((x y : X) → P x → P y → R x y → S x y) → (xs : List X) → AllByRecursion P xs → Pairs R xs → Pairs S xs
pairs-weaken P R S f [] all h = tt
pairs-weaken {X} P R S f (x ∷ xs) all h = (here xs all.1 h.0, pairs-weaken P R S f xs all.1 h.1) where
  here : (ys : List X) → AllByRecursion P ys → AllByRecursion (R x) ys → AllByRecursion (S x) ys
  here [] a k = tt
  here (y ∷ ys) a k = (f x y all.0 a.0 k.0, here ys a.1 k.1)

-- What holds at each two places.
pub pairs-from-places : {X : Type 0} (R : X → X → Type 0) (xs : List X) → ((i j : ℕ) (d : X) → i < j → j < length xs → R (get_or xs i d) (get_or xs j d)) → Pairs R xs
pairs-from-places R [] h = tt
pairs-from-places R (x ∷ xs) h =
    (recursion_from_All (R x) xs (λ k d within. h 0 (suc k) d (omega arith) (omega arith)), pairs-from-places R xs (λ i j d order within. h (suc i) (suc j) d (omega arith) (omega arith)))

-- Of what holds of all elements, and of each two: what holds of the element after the first ones.
before-it : {X : Type 0} (R : X → X → Type 0) (done : List X) (x : X) (rest : List X) → Pairs R (done ++ x ∷ rest) → AllByRecursion (λ y. R y x) done
before-it R [] x rest h = tt
before-it {X} R (y ∷ done) x rest h = (here done h.0, before-it R done x rest h.1) where
  here : (ys : List X) → AllByRecursion (R y) (ys ++ x ∷ rest) → R y x
  here [] k = k.0
  here (z ∷ zs) k = here zs k.1

after-it : {X : Type 0} (R : X → X → Type 0) (done : List X) (x : X) (rest : List X) → Pairs R (done ++ x ∷ rest) → AllByRecursion (R x) rest
after-it R [] x rest h = h.0
after-it R (y ∷ done) x rest h = after-it R done x rest h.1

of-it : {X : Type 0} (P : X → Type 0) (done : List X) (x : X) (rest : List X) → AllByRecursion P (done ++ x ∷ rest) → P x
of-it P [] x rest h = h.0
of-it P (y ∷ done) x rest h = of-it P done x rest h.1

pub pairs-before : {X : Type 0} (R : X → X → Type 0) (all done : List X) (x : X) (rest : List X) → done ++ x ∷ rest ≡ all → Pairs R all → AllByRecursion (λ y. R y x) done
pairs-before R all done x rest e h = before-it R done x rest (subst (Pairs R) (sym e) h)

pub pairs-after : {X : Type 0} (R : X → X → Type 0) (all done : List X) (x : X) (rest : List X) → done ++ x ∷ rest ≡ all → Pairs R all → AllByRecursion (R x) rest
pairs-after R all done x rest e h = after-it R done x rest (subst (Pairs R) (sym e) h)

pub all-here : {X : Type 0} (P : X → Type 0) (all done : List X) (x : X) (rest : List X) → done ++ x ∷ rest ≡ all → AllByRecursion P all → P x
all-here P all done x rest e h = of-it P done x rest (subst (AllByRecursion P) (sym e) h)

-- In an order that goes on from each element each is below all those after it.
pub rising-all : {X : Type 0} (below : X → X → Bool) (P : X → Type 0) → ((a b c : X) → P b → below a b ≡ true → below b c ≡ true → below a c ≡ true)
    → (xs : List X) → AllByRecursion P xs → IsRising below xs → Pairs (λ a b. below a b ≡ true) xs
rising-all below P trans [] h rising = tt
rising-all below P trans (x ∷ []) h rising = (tt, tt)
rising-all {X} below P trans (x ∷ y ∷ ys) h rising =
    let next : below x y ≡ true = rising 0 x (omega arith) in
    let rest = rising-all below P trans (y ∷ ys) h.1 later in
    ((next, all-weaken (λ z. below y z ≡ true) (λ z. below x z ≡ true) (λ z k. trans x y z h.1.0 next k) ys rest.0), rest) where
      later : IsRising below (y ∷ ys)
      later k d within = rw add-one (rw add-one at (rising (suc k) d (omega arith)))

-- A test that fails of each element passes of none.
pub any-fails : {X : Type 0} (test : X → Bool) (P : X → Type 0) → ((x : X) → P x → test x ≡ false) → (xs : List X) → AllByRecursion P xs → list_any test xs ≡ false
any-fails test P fails [] h = refl
any-fails test P fails (x ∷ xs) h = rw (fails x h.0) (any-fails test P fails xs h.1)
