-- The text of rows, row by row.
use Rattle.std.proofs.Common.{◌≡◌, ℕ, ◌<◌, ◌≤◌, List, [], ◌∷◌, ◌++◌, length, length-append, take, sym, ap, ◌∙◌, arith, append_assoc, cond, eqb, inl, inr, lt-ltb, le-ltb, ne_eqb}
use Rattle.std.specs.Prelude.{nat_lt}
use Rattle.std.specs.List.{flat_map}
use Rattle.std.proofs.lemmas.Bool.{cases_lt, cond-false, cond-true}
use Rattle.std.proofs.lemmas.List.{append-nil, take-append-le, take_all}
use Rattle.std.proofs.lemmas.List.Concat.{flat_map-append}
use Rattle.deliveries.specs.Text.{later_row, mishaps, row_text, rows_joined}
use Rattle.deliveries.specs.Told.{next_text}
use Rattle.deliveries.specs.declared.mishap.Mishap.{Mishap}
use Rattle.deliveries.specs.declared.mishap.Mishap.TheVariants.{Lost, Spoilt, HeldBack, Repeated, Untaken}
use Rattle.deliveries.specs.declared.rows.Row.{Row}

after-some : (row : Row) (xs : List Row) (r : Row) → rows_joined ((row ∷ xs) ++ r ∷ []) ≡ rows_joined (row ∷ xs) ++ later_row r
after-some row xs r =
    ap (λ (t : List ℕ). row_text row ++ t) (flat_map-append later_row xs (r ∷ []) ∙ ap (λ (t : List ℕ). flat_map later_row xs ++ t) (append-nil (later_row r)))
    ∙ sym (append_assoc (row_text row) (flat_map later_row xs) (later_row r))

shown : (xs : List Row) (r : Row) → length xs < 6 → rows_joined (xs ++ r ∷ []) ≡ rows_joined xs ++ next_text (length xs) r
shown [] r few = append-nil (row_text r)
shown (row ∷ xs) r few =
    let n = length (row ∷ xs) in
    let next : next_text n r ≡ later_row r = cond-true (nat_lt n 6) (cond (eqb n 0) (row_text r) (later_row r)) [] (lt-ltb n 6 few) ∙ cond-false (eqb n 0) (row_text r) (later_row r) (ne_eqb n 0 (λ e. omega arith)) in
    after-some row xs r ∙ ap (λ (t : List ℕ). rows_joined (row ∷ xs) ++ t) (sym next)

not-shown : (count : ℕ) (r : Row) → 6 ≤ count → next_text count r ≡ []
not-shown count r many = cond-false (nat_lt count 6) _ [] (le-ltb count 6 many)

-- One row more.
pub shown-more : (xs : List Row) (r : Row) → rows_joined (take 6 (xs ++ r ∷ [])) ≡ rows_joined (take 6 xs) ++ next_text (length xs) r
shown-more xs r = elim (cases_lt (length xs) 6) [
  | inl few ↦
      (let size : length (xs ++ r ∷ []) ≤ 6 = (let n = length-append xs (r ∷ []) in omega arith) in
      ap rows_joined (take_all 6 (xs ++ r ∷ []) size) ∙ shown xs r few ∙ ap (λ (ys : List Row). rows_joined ys ++ next_text (length xs) r) (sym (take_all 6 xs (omega arith))))
  | inr many ↦
      ap rows_joined (take-append-le 6 xs (r ∷ []) many) ∙ sym (append-nil (rows_joined (take 6 xs))) ∙ ap (λ (t : List ℕ). rows_joined (take 6 xs) ++ t) (sym (not-shown (length xs) r many))
]

-- ---- parts that are added one after the other

goes-on : (l x rest m : List ℕ) → m ≡ l ++ x → m ++ rest ≡ l ++ (x ++ rest)
goes-on l x rest m added = ap (λ (t : List ℕ). t ++ rest) added ∙ append_assoc l x rest

pub five-parts : (f : Mishap → List ℕ) (start one two three four five : List ℕ) → one ≡ start ++ f Lost → two ≡ one ++ f Spoilt → three ≡ two ++ f HeldBack → four ≡ three ++ f Repeated → five ≡ four ++ f Untaken →
    five ≡ start ++ flat_map f mishaps
five-parts f start one two three four five a b d g h =
    h ∙ ap (λ (t : List ℕ). four ++ t) (sym (append-nil (f Untaken))) ∙ goes-on three (f Repeated) (f Untaken ++ []) four g
    ∙ goes-on two (f HeldBack) (f Repeated ++ (f Untaken ++ [])) three d ∙ goes-on one (f Spoilt) (f HeldBack ++ (f Repeated ++ (f Untaken ++ []))) two b
    ∙ goes-on start (f Lost) (f Spoilt ++ (f HeldBack ++ (f Repeated ++ (f Untaken ++ [])))) one a

-- A head, parts and the end of a line.
pub whole-line : (head parts end line ended result : List ℕ) → line ≡ head → ended ≡ line ++ parts → result ≡ ended ++ end → result ≡ (head ++ parts) ++ end
whole-line head parts end line ended result a b d = d ∙ ap (λ (t : List ℕ). t ++ end) (b ∙ ap (λ (t : List ℕ). t ++ parts) a)
