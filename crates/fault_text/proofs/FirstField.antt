-- The first field of a line.
use Rattle.std.proofs.Common.{◌≡◌, ℕ, zero, suc, ◌-◌, ◌<◌, ◌≤◌, Bool, true, false, List, [], ◌∷◌, length, get_or, take, drop, refl, sym, ap, ◌∙◌, arith, eqb, add-one}
use Rattle.std.specs.List.{onto_first}
use Rattle.std.proofs.lemmas.List.Splits.{slice_split-cons_no, slice_split-cons_yes}
use Rattle.std.proofs.lemmas.List.{drop-drop, length-drop, take_all}
use Rattle.enc_file.specs.Values.{field}
use Rattle.fault_text.specs.Lines.{fields_in}

-- No comma stands before a place.
abbrev pub NoComma : List ℕ → ℕ → Type 0
NoComma bytes n = (k : ℕ) → 0 ≤ k → k < n → eqb (get_or bytes k 0) 44 ≡ true → ⊥

later : (c : ℕ) (cs : List ℕ) (n : ℕ) → NoComma (c ∷ cs) (suc n) → NoComma cs n
later c cs n none = λ k low below. none (suc k) (omega arith) (omega arith)

no-true : (b : Bool) → (b ≡ true → ⊥) → b ≡ false
no-true true h = absurd (h refl)
no-true false h = refl

first-other : (c : ℕ) (cs : List ℕ) (n : ℕ) → NoComma (c ∷ cs) (suc n) → eqb c 44 ≡ false
first-other c cs n none = no-true (eqb c 44) (none 0 (omega arith) (omega arith))

-- Up to the first comma.
pub field-at : (bytes : List ℕ) (n : ℕ) → n < length bytes → NoComma bytes n → eqb (get_or bytes n 0) 44 ≡ true → fields_in bytes ≡ take n bytes ∷ fields_in (drop (suc n) bytes)
field-at [] n h none here = absurd (omega arith)
field-at (c ∷ cs) zero h none here = slice_split-cons_yes (λ d. eqb d 44) c cs here
field-at (c ∷ cs) (suc n) h none here =
    slice_split-cons_no (λ d. eqb d 44) c cs (first-other c cs n none) ∙ ap (onto_first c) (field-at cs n (omega arith) (later c cs n none) here)

-- Where there is none.
pub field-all : (bytes : List ℕ) → NoComma bytes (length bytes) → fields_in bytes ≡ bytes ∷ []
field-all [] none = refl
field-all (c ∷ cs) none =
    slice_split-cons_no (λ d. eqb d 44) c cs (first-other c cs (length cs) none) ∙ ap (onto_first c) (field-all cs (later c cs (length cs) none))

-- What stands behind the comma.
pub rest-of : (n : ℕ) (bytes : List ℕ) → drop (suc n) bytes ≡ take (length (drop n bytes) - 1) (drop 1 (drop n bytes))
rest-of n bytes =
    let rest : drop 1 (drop n bytes) ≡ drop (suc n) bytes = drop-drop 1 n bytes ∙ ap (λ k. drop k bytes) (add-one n) in
    let short : length (drop 1 (drop n bytes)) ≡ length (drop n bytes) - 1 = length-drop 1 (drop n bytes) in
    sym rest ∙ sym (take_all (length (drop n bytes) - 1) (drop 1 (drop n bytes)) (omega (arith, short)))

-- A field further on.
pub field-later : (f : List ℕ) (fs : List (List ℕ)) (n : ℕ) → 0 < n → field (f ∷ fs) n ≡ field fs (n - 1)
field-later f fs zero h = absurd (omega (arith, h))
field-later f fs (suc n) h = ap (field fs) (omega arith)

pub no-field : (n : ℕ) → field [] n ≡ []
no-field n = refl
