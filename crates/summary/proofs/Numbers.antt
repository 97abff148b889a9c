-- Numbers of a range that pass a test, one after the other.
use Rattle.std.proofs.Common.{◌≡◌, ℕ, zero, suc, ◌+◌, ◌<◌, ◌≤◌, Bool, true, false, cond, List, [], ◌∷◌, ◌++◌, length, length-append, take, refl, ap, ◌∙◌, arith}
use Rattle.std.specs.Prelude.{filter, map}
use Rattle.std.specs.List.{range_with_len}
use Rattle.std.proofs.lemmas.List.{append-nil}
use Rattle.response.proofs.Numbers.{range-more}

-- ---- one number more

filter-last : (f : ℕ → Bool) (xs : List ℕ) (n : ℕ) → filter f (xs ++ n ∷ []) ≡ filter f xs ++ cond (f n) (n ∷ []) []
filter-last f [] n = elim (f n) as (λ b. cond b (n ∷ []) [] ≡ cond b (n ∷ []) []) [ true ↦ refl | false ↦ refl ]
filter-last f (x ∷ xs) n =
    let ih = filter-last f xs n in
    elim (f x) as (λ b. cond b (x ∷ filter f (xs ++ n ∷ [])) (filter f (xs ++ n ∷ [])) ≡ cond b (x ∷ filter f xs) (filter f xs) ++ cond (f n) (n ∷ []) []) [ true ↦ ap (λ (l : List ℕ). x ∷ l) ih | false ↦ ih ]

abbrev pub passing : (ℕ → Bool) → ℕ → ℕ → List ℕ
passing f first n = filter f (range_with_len first n)

pub passing-yes : (f : ℕ → Bool) (first n : ℕ) → f (first + n) ≡ true → passing f first (n + 1) ≡ passing f first n ++ (first + n) ∷ []
passing-yes f first n met =
    ap (filter f) (range-more first n) ∙ filter-last f (range_with_len first n) (first + n)
    ∙ ap (λ (b : Bool). passing f first n ++ cond b ((first + n) ∷ []) []) met

pub passing-no : (f : ℕ → Bool) (first n : ℕ) → f (first + n) ≡ false → passing f first (n + 1) ≡ passing f first n
passing-no f first n unmet =
    ap (filter f) (range-more first n) ∙ filter-last f (range_with_len first n) (first + n)
    ∙ ap (λ (b : Bool). passing f first n ++ cond b ((first + n) ∷ []) []) unmet ∙ append-nil (passing f first n)

pub count-yes : (f : ℕ → Bool) (first n : ℕ) → f (first + n) ≡ true → length (passing f first (n + 1)) ≡ length (passing f first n) + 1
count-yes f first n met = ap length (passing-yes f first n met) ∙ length-append (passing f first n) ((first + n) ∷ [])

pub count-no : (f : ℕ → Bool) (first n : ℕ) → f (first + n) ≡ false → length (passing f first (n + 1)) ≡ length (passing f first n)
count-no f first n unmet = ap length (passing-no f first n unmet)

-- ---- the first of a list

pub take-in : {X : Type 0} (k : ℕ) (xs : List X) (x : X) → length xs < k → take k (xs ++ x ∷ []) ≡ take k xs ++ x ∷ []
take-in zero xs x h = absurd (omega arith)
take-in (suc k) [] x h = nothing-after k x
  where
    nothing-after : {X : Type 0} (k : ℕ) (x : X) → take (suc k) (x ∷ []) ≡ x ∷ []
    nothing-after zero x = refl
    nothing-after (suc k) x = refl
take-in (suc k) (y ∷ xs) x h = ap (λ l. y ∷ l) (take-in k xs x (omega arith))

pub take-past : {X : Type 0} (k : ℕ) (xs : List X) (x : X) → k ≤ length xs → take k (xs ++ x ∷ []) ≡ take k xs
take-past zero xs x h = refl
take-past (suc k) [] x h = absurd (omega arith)
take-past (suc k) (y ∷ xs) x h = ap (λ l. y ∷ l) (take-past k xs x (omega arith))

pub map-last : {X Y : Type 0} (f : X → Y) (xs : List X) (x : X) → map f (xs ++ x ∷ []) ≡ map f xs ++ f x ∷ []
map-last f [] x = refl
map-last f (y ∷ xs) x = ap (λ l. f y ∷ l) (map-last f xs x)
