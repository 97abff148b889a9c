-- Lines of calls, one after the other.
use Rattle.std.proofs.Common.{◌≡◌, ℕ, zero, suc, ◌+◌, ◌<◌, ◌≤◌, List, [], ◌∷◌, ◌++◌, length, take, refl, sym, ap, ◌∙◌, arith, append_assoc}
use Rattle.std.proofs.lemmas.Bool.{cond-false, cond-true, le-ltb, lt-ltb}
use Rattle.std.specs.Prelude.{nat_lt}
use Rattle.acas_base.specs.Encounter.{Parts}
use Rattle.labels.specs.Labels.{LabelWords}
use Rattle.picture.specs.Heard.{call_marks, line_marks, lines, listed}
use Rattle.picture.specs.declared.gathered.CallLine.{CallLine}

pub listed-append : (top : ℕ) (e : Parts) (labels : LabelWords) (number : ℕ) (xs ys : List CallLine) → listed top e labels number (xs ++ ys) ≡ listed top e labels number xs ++ listed top e labels (number + length xs) ys
listed-append top e labels number [] ys = ap (λ (n : ℕ). listed top e labels n ys) (omega arith)
listed-append top e labels number (call ∷ xs) ys =
    let next : (number + 1) + length xs ≡ number + length (call ∷ xs) = omega arith in
    ap (λ rest. call_marks top e labels number call ++ rest) (listed-append top e labels (number + 1) xs ys ∙ ap (λ (n : ℕ). listed top e labels (number + 1) xs ++ listed top e labels n ys) next)
    ∙ sym (append_assoc (call_marks top e labels number call) (listed top e labels (number + 1) xs) (listed top e labels (number + length (call ∷ xs)) ys))

-- A line is there where its number is below 22.
with-line : (top : ℕ) (e : Parts) (labels : LabelWords) (number : ℕ) (call : CallLine) → number < 22 → call_marks top e labels number call ≡ line_marks top e labels number call
unfolding call_marks
with-line top e labels number call few = cond-true (nat_lt number 22) (line_marks top e labels number call) [] (lt-ltb number 22 few)

without-line : (top : ℕ) (e : Parts) (labels : LabelWords) (number : ℕ) (call : CallLine) → 22 ≤ number → call_marks top e labels number call ≡ []
unfolding call_marks
without-line top e labels number call many = cond-false (nat_lt number 22) (line_marks top e labels number call) [] (le-ltb number 22 many)

none-listed : (top : ℕ) (e : Parts) (labels : LabelWords) (number : ℕ) (xs : List CallLine) → 22 ≤ number → listed top e labels number xs ≡ []
none-listed top e labels number [] many = refl
none-listed top e labels number (call ∷ xs) many =
    ap (λ marks. marks ++ listed top e labels (number + 1) xs) (without-line top e labels number call many) ∙ none-listed top e labels (number + 1) xs (omega arith)

first-listed : (top : ℕ) (e : Parts) (labels : LabelWords) (number room : ℕ) (xs : List CallLine) → number + room ≡ 22 → listed top e labels number xs ≡ lines top e labels number (take room xs)
first-listed top e labels number zero xs sum = none-listed top e labels number xs (omega arith)
first-listed top e labels number (suc room) [] sum = refl
first-listed top e labels number (suc room) (call ∷ xs) sum =
    ap (λ marks. marks ++ listed top e labels (number + 1) xs) (with-line top e labels number call (omega arith))
    ∙ ap (λ rest. line_marks top e labels number call ++ rest) (first-listed top e labels (number + 1) room xs (omega arith))

-- The lines are the first 22 ones.
pub listed-is : (top : ℕ) (e : Parts) (labels : LabelWords) (xs : List CallLine) → listed top e labels 0 xs ≡ lines top e labels 0 (take 22 xs)
listed-is top e labels xs = first-listed top e labels 0 22 xs (omega arith)
