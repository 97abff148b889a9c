-- Rows of marked numbers.
use Rattle.std.proofs.Common.{◌≡◌, ℕ, zero, suc, ◌+◌, ◌-◌, ◌<◌, ◌≤◌, Bool, true, false, not, ◌&&◌, List, [], ◌∷◌, get_or, length, map, Some, None, refl, sym, ap, ◌∙◌, subst, arith, inl, inr, ◌⊎◌, lt-ltb, le-ltb}
use Rattle.std.specs.Prelude.{nat_lt}
use Rattle.std.specs.List.{range_with_len}
use Rattle.std.proofs.lemmas.Bool.{and_from, and_parts, and_left, and_right, cases_Bool, cases_eq, cases_lt, cond-false, cond-true, not_from_false}
use Rattle.std.proofs.lemmas.List.FromFn.{get_or-map-range_with_len, length-map-range_with_len}
use Rattle.deliveries.specs.Laws.{AreRows, IsRow, IsRowAt, LiesIn}
use Rattle.deliveries.specs.Rows.{begins_row, is_marked, row_at, row_end}
use Rattle.deliveries.specs.declared.rows.Row.{Row}

get-past : (flags : List Bool) (at : ℕ) → length flags ≤ at → get_or flags at false ≡ false
get-past [] at past = refl
get-past (flag ∷ flags) zero past = absurd (omega arith)
get-past (flag ∷ flags) (suc at) past = get-past flags at (omega arith)

-- A number after the last one isn't marked.
pub marked-past : (flags : List Bool) (number : ℕ) → length flags < number → is_marked flags number ≡ false
marked-past flags number past = get-past flags (number - 1) (omega arith)

pub marked-within : (flags : List Bool) (number : ℕ) → is_marked flags number ≡ true → number ≤ length flags
marked-within flags number is = elim (cases_lt (length flags) number) [
  | inl past ↦ absurd (let not_there = marked-past flags number past in let both = sym is ∙ not_there in cc)
  | inr within ↦ within
]

-- ---- flags that say something of each number

pub marked-by : (f : ℕ → Bool) (n number : ℕ) → 1 ≤ number → number ≤ n → is_marked (map f (range_with_len 1 n)) number ≡ f number
marked-by f n number first last = get_or-map-range_with_len f 1 n (number - 1) number false (omega arith) (omega arith)

pub marked-none : (f : ℕ → Bool) (n number : ℕ) → n < number → is_marked (map f (range_with_len 1 n)) number ≡ false
marked-none f n number past = marked-past (map f (range_with_len 1 n)) number (let size = length-map-range_with_len f 1 n in omega arith)

-- ---- the end of a row

pub end-on : (flags : List Bool) (most number : ℕ) → is_marked flags (number + 1) ≡ true → row_end flags (suc most) number ≡ row_end flags most (number + 1)
end-on flags most number is = cond-true (is_marked flags (number + 1)) (row_end flags most (number + 1)) number is

pub end-here : (flags : List Bool) (most number : ℕ) → is_marked flags (number + 1) ≡ false → row_end flags most number ≡ number
end-here flags zero number is = refl
end-here flags (suc most) number is = cond-false (is_marked flags (number + 1)) (row_end flags most (number + 1)) number is

-- The row goes on, or it ends.
goes-on : (flags : List Bool) (number : ℕ) → (is_marked flags (number + 1) ≡ true) ⊎ (is_marked flags (number + 1) ≡ false)
goes-on flags number = cases_Bool (is_marked flags (number + 1))

pub record IsEnd (flags : List Bool) (number last : ℕ) : Type 0 where
  pub low : number ≤ last
  pub marked : (k : ℕ) → number ≤ k → k ≤ last → is_marked flags k ≡ true
  pub after : is_marked flags (last + 1) ≡ false

only : (flags : List Bool) (number k : ℕ) → is_marked flags number ≡ true → number ≤ k → k ≤ number → is_marked flags k ≡ true
only flags number k is low high = ap (is_marked flags) (let same : k ≡ number = omega arith in same) ∙ is

pub end-is : (flags : List Bool) (most number : ℕ) → length flags ≤ number + most → is_marked flags number ≡ true → IsEnd flags number (row_end flags most number)
end-is flags zero number far is = record { low = omega arith; marked = λ k low high. only flags number k is low high; after = marked-past flags (number + 1) (omega arith) }
end-is flags (suc most) number far is = elim (goes-on flags number) [
  | inl on ↦
      (let same = end-on flags most number on in
      let rest = end-is flags most (number + 1) (omega arith) on in
      record {
        low = (let l = rest.low in omega (arith, same));
        marked = λ k low high. elim (cases_eq k number) [
          | inl here ↦ ap (is_marked flags) here ∙ is
          | inr later ↦ rest.marked k (omega arith) (omega (arith, same))
        ];
        after = ap (λ (n : ℕ). is_marked flags (n + 1)) same ∙ rest.after;
      })
  | inr ends ↦
      (let same = end-here flags (suc most) number ends in
      record {
        low = omega (arith, same);
        marked = λ k low high. only flags number k is low (omega (arith, same));
        after = ap (λ (n : ℕ). is_marked flags (n + 1)) same ∙ ends;
      })
]

-- It is the only one.
end-unique : (flags : List Bool) (most number last : ℕ) → last ≤ number + most → IsEnd flags number last → row_end flags most number ≡ last
end-unique flags zero number last few is = (let low = is.low in omega arith)
end-unique flags (suc most) number last few is = elim (cases_eq number last) [
  | inl same ↦ end-here flags (suc most) number (ap (λ (n : ℕ). is_marked flags (n + 1)) same ∙ is.after) ∙ same
  | inr less ↦
      (let low = is.low in
      end-on flags most number (is.marked (number + 1) (omega arith) (omega arith))
      ∙ end-unique flags most (number + 1) last (omega arith) (record { low = omega arith; marked = λ k a b. is.marked k (omega arith) b; after = is.after }))
]

-- ---- rows

-- A row begins at a number that is marked, where it is 1 or the number before it isn't.
begun : (flags : List Bool) (number : ℕ) → is_marked flags number ≡ true → (1 < number → is_marked flags (number - 1) ≡ false) → begins_row flags number ≡ true
begun flags number is before = and_from (is_marked flags number) _ is (elim (cases_lt 1 number) [
  | inl some ↦ not_from_false (nat_lt 1 number && is_marked flags (number - 1)) (and_right (nat_lt 1 number) _ (before some))
  | inr none ↦ not_from_false (nat_lt 1 number && is_marked flags (number - 1)) (and_left _ (is_marked flags (number - 1)) (le-ltb 1 number none))
])

not-begun : (flags : List Bool) (number : ℕ) → begins_row flags number ≡ true → 1 < number → is_marked flags (number - 1) ≡ false
not-begun flags number is some = from (is_marked flags number) (is_marked flags (number - 1)) (nat_lt 1 number) is (lt-ltb 1 number some)
  where
    from : (a b d : Bool) → (a && not (d && b)) ≡ true → d ≡ true → b ≡ false
    from true false d e f = refl
    from true true true e f = absurd cc
    from true true false e f = absurd cc
    from false false d e f = refl
    from false true d e f = absurd cc

begun-marked : (flags : List Bool) (number : ℕ) → begins_row flags number ≡ true → is_marked flags number ≡ true
begun-marked flags number is = (and_parts (is_marked flags number) _ is).0

-- The row that begins at a number is maximal.
pub row-is : (flags : List Bool) (number : ℕ) → 1 ≤ number → begins_row flags number ≡ true → IsRow flags (record { first = number; last = row_end flags (length flags) number })
row-is flags number one is =
    let marked = begun-marked flags number is in
    let ends = end-is flags (length flags) number (omega arith) marked in
    record {
      begun = one;
      order = ends.low;
      within = marked-within flags (row_end flags (length flags) number) (ends.marked (row_end flags (length flags) number) ends.low (omega arith));
      marked = ends.marked;
      before = not-begun flags number is;
      after = ends.after;
    }

row-told : (flags : List Bool) (number : ℕ) (row : Row) → 1 ≤ number → row_at flags number ≡ Some row → IsRowAt flags number row
row-told flags number row one told = elim (cases_Bool (begins_row flags number)) [
  | inl is ↦
      (let there : Some (let r : Row = record { first = number; last = row_end flags (length flags) number } in r) ≡ Some row = sym (cond-true (begins_row flags number) (Some (record { first = number; last = row_end flags (length flags) number })) None is) ∙ told in
      let same : (let r : Row = record { first = number; last = row_end flags (length flags) number } in r) ≡ row = cc in
      record { is = subst (IsRow flags) same (row-is flags number one is); first = sym (ap (λ (r : Row). r.first) same) })
  | inr none ↦ absurd (let nothing = sym (cond-false (begins_row flags number) (Some (let r : Row = record { first = number; last = row_end flags (length flags) number } in r)) None none) ∙ told in cc)
]

whole : (flags : List Bool) (row : Row) → IsRow flags row → row_at flags row.first ≡ Some row
whole flags row is =
    let marked = is.marked row.first (omega arith) is.order in
    let begins = begun flags row.first marked is.before in
    let last : row_end flags (length flags) row.first ≡ row.last = end-unique flags (length flags) row.first row.last (let w = is.within in omega arith) (record { low = is.order; marked = is.marked; after = is.after }) in
    cond-true (begins_row flags row.first) (Some (record { first = row.first; last = row_end flags (length flags) row.first })) None begins ∙ (λ t. Some (record { first = row.first; last = last t }))

-- ---- each marked number lies in one row

lies-first : (flags : List Bool) (number : ℕ) → 1 ≤ number → begins_row flags number ≡ true → LiesIn flags number
lies-first flags number one is = let row = row-is flags number one is in record { row = record { first = number; last = row_end flags (length flags) number }; is = row; begun = omega arith; lasting = row.order }

lies-later : (flags : List Bool) (number : ℕ) → is_marked flags (number + 1) ≡ true → LiesIn flags number → LiesIn flags (number + 1)
lies-later flags number is there = elim (cases_eq number there.row.last) [
  | inl last ↦ absurd (let ends = sym (ap (λ (n : ℕ). is_marked flags (n + 1)) last) in let both = sym is ∙ sym ends ∙ there.is.after in cc)
  | inr less ↦ record { row = there.row; is = there.is; begun = (let b = there.begun in omega arith); lasting = (let l = there.lasting in omega arith) }
]

lies : (flags : List Bool) (before : ℕ) → is_marked flags (before + 1) ≡ true → LiesIn flags (before + 1)
lies flags zero is = lies-first flags 1 (omega arith) (begun flags 1 is (λ h. absurd (omega arith)))
lies flags (suc before) is =
    let same : suc before + 1 - 1 ≡ before + 1 = omega arith in
    elim (cases_Bool (is_marked flags (before + 1))) [
      | inl marked ↦
          (let next : suc before + 1 ≡ (before + 1) + 1 = omega arith in
          subst (LiesIn flags) (sym next) (lies-later flags (before + 1) (sym (ap (is_marked flags) next) ∙ is) (lies flags before marked)))
      | inr not_there ↦ lies-first flags (suc before + 1) (omega arith) (begun flags (suc before + 1) is (λ h. ap (is_marked flags) same ∙ not_there))
    ]

covered : (flags : List Bool) (number : ℕ) → 1 ≤ number → is_marked flags number ≡ true → LiesIn flags number
covered flags number one is = let same : number - 1 + 1 ≡ number = omega arith in subst (LiesIn flags) same (lies flags (number - 1) (ap (is_marked flags) same ∙ is))

-- No row begins inside another one.
first-low : (flags : List Bool) (one other : Row) (number : ℕ) → IsRow flags one → IsRow flags other → number ≤ one.last → other.first ≤ number → other.first ≤ one.first
first-low flags one other number is that last first = elim (cases_lt one.first other.first) [
  | inl less ↦
      absurd (let low = is.begun in
      let before = that.before (omega arith) in
      let inside = is.marked (other.first - 1) (omega arith) (omega arith) in
      let both = sym inside ∙ before in
      cc)
  | inr low ↦ low
]

last-high : (flags : List Bool) (one other : Row) (number : ℕ) → IsRow flags one → IsRow flags other → one.first ≤ number → number ≤ other.last → one.last ≤ other.last
last-high flags one other number is that first last = elim (cases_lt other.last one.last) [
  | inl less ↦
      absurd (let inside = is.marked (other.last + 1) (omega arith) (omega arith) in
      let both = sym inside ∙ that.after in
      cc)
  | inr high ↦ high
]

once : (flags : List Bool) (number : ℕ) (one other : LiesIn flags number) → one.row ≡ other.row
once flags number one other =
    let a = first-low flags one.row other.row number one.is other.is one.lasting other.begun in
    let b = first-low flags other.row one.row number other.is one.is other.lasting one.begun in
    let d = last-high flags one.row other.row number one.is other.is one.begun other.lasting in
    let f = last-high flags other.row one.row number other.is one.is other.begun one.lasting in
    let first : one.row.first ≡ other.row.first = omega arith in
    let last : one.row.last ≡ other.row.last = omega arith in
    λ t. record { first = first t; last = last t }

pub are-rows : (flags : List Bool) → AreRows flags
are-rows flags = record {
  covered = covered flags;
  marked = λ number there. there.is.marked number there.begun there.lasting;
  once = once flags;
  told = row-told flags;
  whole = whole flags;
}
