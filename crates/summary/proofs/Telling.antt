-- The rows and the stretches that are told, one after the other.
use Rattle.std.proofs.Common.{◌≡◌, ◌≢◌, ℕ, zero, suc, ◌+◌, Bool, true, false, cond, nat_lt, List, [], ◌∷◌, ◌++◌, length, take, Some, None, refl, sym, ap, ◌∙◌, arith, add-one, inl, inr}
use Rattle.std.specs.Prelude.{map, slice_get}
use Rattle.std.proofs.lemmas.Bool.{cases_Bool, ltb-false, ltb-true}
use Rattle.std.proofs.lemmas.List.{append-nil}
use Rattle.acas_base.specs.Encounter.{Parts}
use Rattle.acas_base.specs.declared.entry.Entry.{Entry}
use Rattle.summary.specs.Lines.{more_lines, quiet, stretch_line, stretch_lines, told_stretches}
use Rattle.summary.specs.Pairs.{begins_equal, equal_rows, row_if_told, row_line, row_lines, told_rows}
use Rattle.summary.specs.declared.rows.Start.{Start}
use Rattle.summary.proofs.Numbers.{map-last, passing-no, passing-yes, take-in, take-past}

-- ---- the first ones of a list

more-suc : {X Y : Type 0} (f : X → Y) (xs : List X) (n : ℕ) (x : X) → slice_get xs n ≡ Some x → map f (take (suc n) xs) ≡ map f (take n xs) ++ f x ∷ []
more-suc f [] n x is = absurd (cc)
more-suc f (y ∷ xs) zero x is = ap (λ z. f z ∷ []) (let same : y ≡ x = cc in same)
more-suc f (y ∷ xs) (suc n) x is = ap (λ l. f y ∷ l) (more-suc f xs n x is)

pub first-more : {X Y : Type 0} (f : X → Y) (xs : List X) (n : ℕ) (x : X) → slice_get xs n ≡ Some x → map f (take (n + 1) xs) ≡ map f (take n xs) ++ f x ∷ []
first-more f xs n x is = ap (λ (k : ℕ). map f (take k xs)) (add-one n) ∙ more-suc f xs n x is

all-suc : {X : Type 0} (xs : List X) (n : ℕ) → slice_get xs n ≡ None → take (suc n) xs ≡ take n xs
all-suc [] zero is = refl
all-suc [] (suc n) is = refl
all-suc (y ∷ xs) zero is = absurd (cc)
all-suc (y ∷ xs) (suc n) is = ap (λ l. y ∷ l) (all-suc xs n is)

pub first-all : {X : Type 0} (xs : List X) (n : ℕ) → slice_get xs n ≡ None → take (n + 1) xs ≡ take n xs
first-all xs n is = ap (λ (k : ℕ). take k xs) (add-one n) ∙ all-suc xs n is

-- ---- rows of equal senses

-- The line of the next one, where it is told.
next-told : (f : ℕ → List ℕ) (xs : List ℕ) (x : ℕ) → map f (take told_rows (xs ++ x ∷ [])) ≡ map f (take told_rows xs) ++ cond (nat_lt (length xs) told_rows) (f x ∷ []) []
next-told f xs x = elim (cases_Bool (nat_lt (length xs) told_rows)) [
  | inl met ↦
      ap (map f) (take-in told_rows xs x (ltb-true (length xs) told_rows met)) ∙ map-last f (take told_rows xs) x
      ∙ ap (λ (b : Bool). map f (take told_rows xs) ++ cond b (f x ∷ []) []) (sym met)
  | inr unmet ↦
      ap (map f) (take-past told_rows xs x (ltb-false (length xs) told_rows unmet)) ∙ sym (append-nil (map f (take told_rows xs)))
      ∙ ap (λ (b : Bool). map f (take told_rows xs) ++ cond b (f x ∷ []) []) (sym unmet)
]

pub rows-yes : (journal : List Entry) (cycles a b n : ℕ) → begins_equal journal a b (1 + n) ≡ true →
    row_lines journal cycles a b n ++ row_if_told journal cycles a b (1 + n) (length (equal_rows journal a b n)) ≡ row_lines journal cycles a b (n + 1)
rows-yes journal cycles a b n met =
    sym (ap (λ (xs : List ℕ). map (row_line journal cycles a b) (take told_rows xs)) (passing-yes (begins_equal journal a b) 1 n met)
    ∙ next-told (row_line journal cycles a b) (equal_rows journal a b n) (1 + n))

pub rows-no : (journal : List Entry) (cycles a b n : ℕ) → begins_equal journal a b (1 + n) ≡ false → row_lines journal cycles a b n ≡ row_lines journal cycles a b (n + 1)
rows-no journal cycles a b n unmet = ap (λ (xs : List ℕ). map (row_line journal cycles a b) (take told_rows xs)) (sym (passing-no (begins_equal journal a b) 1 n unmet))

-- ---- stretches

pub quiet-lines : (e : Parts) (journal : List Entry) (own other : ℕ) (starts : List Start) → length starts ≡ 0 → (32 ∷ 32 ∷ 32 ∷ 32 ∷ quiet) ∷ [] ≡ stretch_lines e journal own other starts
quiet-lines e journal own other [] none = refl
quiet-lines e journal own other (first ∷ rest) none = absurd (omega arith)

pub some-lines : (e : Parts) (journal : List Entry) (own other : ℕ) (starts : List Start) → length starts ≢ 0 →
    map (stretch_line e journal own other) (take told_stretches starts) ++ more_lines told_stretches (length starts) ≡ stretch_lines e journal own other starts
some-lines e journal own other [] some = absurd (some refl)
some-lines e journal own other (first ∷ rest) some = refl
