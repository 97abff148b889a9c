-- A line of fields without commas is cut into these fields.
use Rattle.std.proofs.Common.{◌≡◌, ◌≢◌, ℕ, zero, suc, ◌+◌, ◌<◌, ◌≤◌, Bool, true, false, eqb, cond, List, [], ◌∷◌, ◌++◌, length, get_or, take, drop, refl, ap, ◌∙◌, arith, add-one, eqb-true}
use Rattle.std.specs.List.{AllByRecursion, join_with_byte, onto_first}
use Rattle.std.proofs.lemmas.List.Elements.{All-from_recursion}
use Rattle.std.proofs.lemmas.List.Splits.{slice_split_at, slice_split_none}
use Rattle.rec_text.specs.Fields.{fields_of}
use Rattle.rec_text.proofs.Letters.{Lacks}

abbrev pub is_comma : ℕ → Bool
is_comma c = eqb c 44

ltb-cases : (b : Bool) → (b ≡ true → ⊥) → b ≡ false
ltb-cases true h = absurd (h refl)
ltb-cases false h = refl

not-comma : (c : ℕ) → c ≢ 44 → is_comma c ≡ false
not-comma c ne = ltb-cases (eqb c 44) (λ t. ne (eqb-true c 44 t))

passes : (xs : List ℕ) → Lacks 44 xs → AllByRecursion (λ c. is_comma c ≡ false) xs
passes [] h = tt
passes (x ∷ xs) h = (not-comma x h.0, passes xs h.1)

-- A field and what follows it.
pub split-field : (xs ys : List ℕ) → Lacks 44 xs → fields_of (xs ++ 44 ∷ ys) ≡ xs ∷ fields_of ys
split-field xs ys h = slice_split_at is_comma xs 44 ys (All-from_recursion (λ c. is_comma c ≡ false) xs (passes xs h)) refl

-- The last field.
pub split-last : (xs : List ℕ) → Lacks 44 xs → fields_of xs ≡ xs ∷ []
split-last xs h = slice_split_none is_comma xs (All-from_recursion (λ c. is_comma c ≡ false) xs (passes xs h))

pub split-joined : (f : List ℕ) (fs : List (List ℕ)) → AllByRecursion (Lacks 44) (f ∷ fs) → fields_of (join_with_byte 44 (f ∷ fs)) ≡ f ∷ fs
split-joined f [] h = split-last f h.0
split-joined f (g ∷ fs) h = split-field f (join_with_byte 44 (g ∷ fs)) h.0 ∙ ap (λ t. f ∷ t) (split-joined g fs h.1)

-- By the place of the first comma.
pub first_field : (bs : List ℕ) (n : ℕ) → n < length bs → ((k : ℕ) → 0 ≤ k → k < n → eqb (get_or bs k 0) 44 ≡ true → ⊥) → eqb (get_or bs n 0) 44 ≡ true
    → fields_of bs ≡ take n bs ∷ fields_of (drop (n + 1) bs)
first_field [] n h none here = absurd (omega arith)
first_field (c ∷ cs) zero h none here = rw (eqb-true c 44 here) refl
first_field (c ∷ cs) (suc n) h none here =
    let rest = first_field cs n (omega arith) (λ k low below. none (suc k) (omega arith) (omega arith)) here in
    let this : is_comma c ≡ false = ltb-cases (eqb c 44) (none 0 (omega arith) (omega arith)) in
    rw add-one (ap (λ b. cond b ([] ∷ fields_of cs) (onto_first c (fields_of cs))) this ∙ ap (onto_first c) (rw add-one at rest))

pub only_field : (bs : List ℕ) → ((k : ℕ) → 0 ≤ k → k < length bs → eqb (get_or bs k 0) 44 ≡ true → ⊥) → fields_of bs ≡ bs ∷ []
only_field [] none = refl
only_field (c ∷ cs) none =
    let rest = only_field cs (λ k low below. none (suc k) (omega arith) (omega arith)) in
    let this : is_comma c ≡ false = ltb-cases (eqb c 44) (none 0 (omega arith) (omega arith)) in
    ap (λ b. cond b ([] ∷ fields_of cs) (onto_first c (fields_of cs))) this ∙ ap (onto_first c) rest

cond-some : (b : Bool) (c : ℕ) (ls : List (List ℕ)) → cond b ([] ∷ ls) (onto_first c ls) ≢ []
cond-some true c ls = λ e. absurd cc
cond-some false c [] = λ e. absurd cc
cond-some false c (l ∷ ls) = λ e. absurd cc

-- A line has a field.
pub some_field : (bs : List ℕ) → fields_of bs ≢ []
some_field [] = λ e. absurd cc
some_field (c ∷ cs) = cond-some (is_comma c) c (fields_of cs)
