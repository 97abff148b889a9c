-- Notes that are told one after the other, up to the limit.
use Rattle.std.proofs.Common.{◌≡◌, ℕ, zero, suc, ◌+◌, ◌-◌, List, [], ◌∷◌, ◌++◌, length, map, take, refl, sym, ap, ap₂, ◌∙◌, arith}
use Rattle.idle_notes.specs.Told.{most_told, still_told}

take-plus : (n : ℕ) (xs ys : List (List ℕ)) → take n (xs ++ ys) ≡ take n xs ++ take (n - length xs) ys
take-plus zero xs ys = ap (λ (k : ℕ). take k ys) (let none : 0 ≡ 0 - length xs = omega arith in none)
take-plus (suc n) [] ys = ap (λ (k : ℕ). take k ys) (let same : suc n ≡ suc n - 0 = omega arith in same)
take-plus (suc n) (x ∷ xs) ys =
    ap (λ (t : List (List ℕ)). x ∷ t) (take-plus n xs ys) ∙ ap (λ (k : ℕ). x ∷ (take n xs ++ take k ys)) (let same : n - length xs ≡ suc n - suc (length xs) = omega arith in same)

pub still-plus : (told : ℕ) (xs ys : List (List ℕ)) → still_told told (xs ++ ys) ≡ still_told told xs ++ still_told (told + length xs) ys
still-plus told xs ys =
    take-plus (most_told - told) xs ys
    ∙ ap (λ (k : ℕ). still_told told xs ++ take k ys) (let same : most_told - told - length xs ≡ most_told - (told + length xs) = omega arith in same)

map-plus : {X : Type 0} (f : X → List ℕ) (xs ys : List X) → map f (xs ++ ys) ≡ map f xs ++ map f ys
map-plus f [] ys = refl
map-plus f (x ∷ xs) ys = ap (λ (t : List (List ℕ)). f x ∷ t) (map-plus f xs ys)

pub map-length : {X : Type 0} (f : X → List ℕ) (xs : List X) → length (map f xs) ≡ length xs
map-length f [] = refl
map-length f (x ∷ xs) = ap suc (map-length f xs)

pub still-more : {X : Type 0} (f : X → List ℕ) (told after : ℕ) (xs ys : List X) → after ≡ told + length xs
    → still_told told (map f (xs ++ ys)) ≡ still_told told (map f xs) ++ still_told after (map f ys)
still-more f told after xs ys is =
    ap (still_told told) (map-plus f xs ys) ∙ still-plus told (map f xs) (map f ys)
    ∙ ap (λ (k : ℕ). still_told told (map f xs) ++ still_told k (map f ys)) (ap (λ (k : ℕ). told + k) (map-length f xs) ∙ sym is)

take-none : (n : ℕ) → (let none : List (List ℕ) = [] in take n none) ≡ []
take-none zero = refl
take-none (suc n) = refl

pub still-none : (told : ℕ) → still_told told [] ≡ []
still-none told = take-none (most_told - told)
