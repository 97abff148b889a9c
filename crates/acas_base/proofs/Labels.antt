-- The text of a label stands before zeros.
use Rattle.std.proofs.Common.{◌≡◌, ℕ, zero, suc, ◌-◌, ◌≤◌, List, [], ◌∷◌, ◌++◌, length, take, drop, replicate, length-append, arith, ap, refl, true, ◌∙◌}
use Rattle.std.specs.Prelude.{IsTrue}
use Rattle.std.proofs.lemmas.Bool.Decides.{nat_tests}
use Rattle.acas_base.specs.Labels.{is_label}

take-front : (xs ys : List ℕ) → take (length xs) (xs ++ ys) ≡ xs
take-front [] ys = refl
take-front (x ∷ xs) ys = ap (λ l. x ∷ l) (take-front xs ys)

drop-front : (xs ys : List ℕ) → drop (length xs) (xs ++ ys) ≡ ys
drop-front [] ys = refl
drop-front (x ∷ xs) ys = drop-front xs ys

abbrev zeros : ℕ → List ℕ
zeros n = replicate n 0

pub drop-zeros : (m n : ℕ) → drop m (zeros n) ≡ zeros (n - m)
drop-zeros zero n = ap zeros {x = n} {y = n - 0} (omega arith)
drop-zeros (suc m) zero = ap zeros {x = 0} {y = 0 - suc m} (omega arith)
drop-zeros (suc m) (suc n) = drop-zeros m n ∙ ap zeros {x = n - m} {y = suc n - suc m} (omega arith)

pub length-zeros : (n : ℕ) → length (zeros n) ≡ n
length-zeros zero = refl
length-zeros (suc n) = ap suc (length-zeros n)

-- A label has at most 60 bytes.
pub label-short : (text : List ℕ) → is_label text ≡ true → length text ≤ 60
unfolding is_label
label-short text is = grind (arith, nat_tests)

-- A text in front of what is left of 60 zeros.
pub label-whole : (text front rest : List ℕ) → is_label text ≡ true → rest ≡ zeros 60 → front ≡ text
    → (length (front ++ drop (length text) rest) ≡ 60) × (length text ≤ 60) × (drop (length text) (front ++ drop (length text) rest) ≡ zeros (60 - length text)) × IsTrue (is_label (take (length text) (front ++ drop (length text) rest)))
label-whole text front rest is rest-is same =
    let short = label-short text is in
    let left : drop (length text) rest ≡ zeros (60 - length text) = ap (drop (length text)) rest-is ∙ drop-zeros (length text) 60 in
    rw (same, left) (
      omega (arith, short, length-append text (zeros (60 - length text)), length-zeros (60 - length text)),
      short,
      drop-front text (zeros (60 - length text)),
      ap is_label (take-front text (zeros (60 - length text))) ∙ is,
    )
