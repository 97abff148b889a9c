-- The rows that are found are the longest ones.
use Rattle.std.proofs.Common.{◌≡◌, ℕ, zero, suc, ◌+◌, ◌-◌, ◌<◌, ◌≤◌, Bool, true, false, not, ◌&&◌, List, [], ◌∷◌, ◌++◌, Some, sym, ap, ◌∙◌, subst, arith, refl, inl, inr}
use Rattle.std.proofs.lemmas.Bool.{and_from, cases_Bool, cases_eq, cases_lt, cond-false, cond-true}
use Rattle.std.specs.Prelude.{slice_get}
use Rattle.std.specs.List.{AllByRecursion, flat_map, range_with_len}
use Rattle.equal_rows.specs.Rows.{AreInOrder, AreRows, IsCovered, IsLongest, IsRun, begins, last_from, lasts, row_from, rows_at, rows_of}
use Rattle.equal_rows.specs.declared.row.Row.{Row}

-- ---- how far a row goes

pub record IsUpTo (goes_on : ℕ → Bool) (cycles first last : ℕ) : Type 0 where
  pub in_order : first ≤ last
  pub in_run : last ≤ cycles
  pub same : (cycle : ℕ) → first ≤ cycle → cycle < last → goes_on cycle ≡ true
  pub ends : last < cycles → goes_on last ≡ false

up-to : (f : ℕ → Bool) (cycles first n : ℕ) → first + n ≡ cycles → IsUpTo f cycles first (lasts f first n)
up-to f cycles first zero all = record { in_order = omega arith; in_run = omega arith; same = λ cycle low high. absurd (omega arith); ends = λ h. absurd (omega arith) }
up-to f cycles first (suc n) all =
    let rest = up-to f cycles (first + 1) n (omega arith) in
    elim (cases_Bool (f first)) [
      | inl met ↦
          subst (IsUpTo f cycles first) (sym (cond-true (f first) (lasts f (first + 1) n) first met))
          (record {
            in_order = (let later = rest.in_order in omega arith);
            in_run = rest.in_run;
            same = λ cycle low high. elim (cases_eq cycle first) [
              | inl here ↦ ap f here ∙ met
              | inr apart ↦ rest.same cycle (omega arith) high
            ];
            ends = rest.ends;
          })
      | inr unmet ↦
          subst (IsUpTo f cycles first) (sym (cond-false (f first) (lasts f (first + 1) n) first unmet))
          (record { in_order = omega arith; in_run = omega arith; same = λ cycle low high. absurd (omega arith); ends = λ h. unmet })
    ]

-- ---- a row that begins

-- What a row shows, it shows to its end.
shown-on : (shows goes_on : ℕ → Bool) → IsRun shows goes_on → (first : ℕ) → shows first ≡ true → (n last : ℕ) →
    ((cycle : ℕ) → first ≤ cycle → cycle < last → goes_on cycle ≡ true) → first + n ≤ last → shows (first + n) ≡ true
shown-on shows goes_on run first here zero last same within = ap shows (let k : first + 0 ≡ first = omega arith in k) ∙ here
shown-on shows goes_on run first here (suc n) last same within =
    let next : (first + n) + 1 ≡ first + suc n = omega arith in
    sym (ap shows next) ∙ sym (run.alike (first + n) (same (first + n) (omega arith) (omega arith))) ∙ shown-on shows goes_on run first here n last same (omega arith)

both-hold : (a b : Bool) → a && not b ≡ true → (a ≡ true) × (b ≡ false)
both-hold true true h = absurd (cc)
both-hold true false h = (refl, refl)
both-hold false b h = absurd (cc)

longest : (shows goes_on : ℕ → Bool) (cycles : ℕ) → IsRun shows goes_on → (first : ℕ) → 1 ≤ first → first ≤ cycles → begins shows goes_on first ≡ true →
    IsLongest shows goes_on cycles (row_from goes_on cycles first)
longest shows goes_on cycles run first begun within met =
    let up = up-to goes_on cycles first (cycles - first) (omega arith) in
    let both = both-hold (shows first) (goes_on (first - 1)) met in
    record {
      begun = begun;
      in_order = up.in_order;
      in_run = up.in_run;
      shown = λ cycle low high. (let at : first + (cycle - first) ≡ cycle = omega arith in
          ap shows (sym at) ∙ shown-on shows goes_on run first both.0 (cycle - first) (last_from goes_on cycles first) up.same (omega arith));
      same = up.same;
      starts = both.1;
      ends = up.ends;
    }

-- ---- all rows

all-append : {X : Type 0} (P : X → Type 0) (xs ys : List X) → AllByRecursion P xs → AllByRecursion P ys → AllByRecursion P (xs ++ ys)
all-append P [] ys g h = h
all-append P (x ∷ xs) ys g h = (g.0, all-append P xs ys g.1 h)

abbrev rows_from : (ℕ → Bool) → (ℕ → Bool) → ℕ → ℕ → ℕ → List Row
rows_from shows goes_on cycles first n = flat_map (rows_at shows goes_on cycles) (range_with_len first n)

-- The rows that begin in some cycles: with the first of them, or later.
here-yes : (shows goes_on : ℕ → Bool) (cycles first n : ℕ) → begins shows goes_on first ≡ true →
    rows_from shows goes_on cycles first (suc n) ≡ row_from goes_on cycles first ∷ rows_from shows goes_on cycles (first + 1) n
here-yes shows goes_on cycles first n met = ap (λ (xs : List Row). xs ++ rows_from shows goes_on cycles (first + 1) n) (cond-true (begins shows goes_on first) (row_from goes_on cycles first ∷ []) [] met)

here-no : (shows goes_on : ℕ → Bool) (cycles first n : ℕ) → begins shows goes_on first ≡ false →
    rows_from shows goes_on cycles first (suc n) ≡ rows_from shows goes_on cycles (first + 1) n
here-no shows goes_on cycles first n unmet = ap (λ (xs : List Row). xs ++ rows_from shows goes_on cycles (first + 1) n) (cond-false (begins shows goes_on first) (row_from goes_on cycles first ∷ []) [] unmet)

each-longest : (shows goes_on : ℕ → Bool) (cycles : ℕ) → IsRun shows goes_on → (n first : ℕ) → 1 ≤ first → first + n ≤ cycles + 1 →
    AllByRecursion (IsLongest shows goes_on cycles) (rows_from shows goes_on cycles first n)
each-longest shows goes_on cycles run zero first begun within = tt
each-longest shows goes_on cycles run (suc n) first begun within =
    let rest = each-longest shows goes_on cycles run n (first + 1) (omega arith) (omega arith) in
    elim (cases_Bool (begins shows goes_on first)) [
      | inl met ↦ subst (AllByRecursion (IsLongest shows goes_on cycles)) (sym (here-yes shows goes_on cycles first n met)) (longest shows goes_on cycles run first begun (omega arith) met, rest)
      | inr unmet ↦ subst (AllByRecursion (IsLongest shows goes_on cycles)) (sym (here-no shows goes_on cycles first n unmet)) rest
    ]

unless : (a b : Bool) → b ≡ true → a && not b ≡ false
unless true true h = refl
unless true false h = absurd (cc)
unless false b h = refl

clash : {b : Bool} → b ≡ true → b ≡ false → ⊥
clash {b} h k = cc

-- No row begins between the first cycles and this one, so those that begin later come after it.
each-later : (shows goes_on : ℕ → Bool) (cycles : ℕ) → (n first after : ℕ) → 1 ≤ first → first + n ≤ cycles + 1 →
    ((cycle : ℕ) → first ≤ cycle → cycle ≤ after → begins shows goes_on cycle ≡ false) → AreInOrder after (rows_from shows goes_on cycles first n)
each-later shows goes_on cycles zero first after begun within none = tt
each-later shows goes_on cycles (suc n) first after begun within none =
    let up = up-to goes_on cycles first (cycles - first) (omega arith) in
    elim (cases_Bool (begins shows goes_on first)) [
      | inl met ↦
          subst (AreInOrder after) (sym (here-yes shows goes_on cycles first n met)) (
            later met,
            each-later shows goes_on cycles n (first + 1) (last_from goes_on cycles first) (omega arith) (omega arith)
                (λ cycle low high. unless (shows cycle) (goes_on (cycle - 1)) (up.same (cycle - 1) (omega arith) (omega arith))),
          )
      | inr unmet ↦
          subst (AreInOrder after) (sym (here-no shows goes_on cycles first n unmet))
          (each-later shows goes_on cycles n (first + 1) after (omega arith) (omega arith) (λ cycle low high. none cycle (omega arith) high))
    ]
  where
    later : begins shows goes_on first ≡ true → after < first
    later met = elim (cases_lt after first) [
      | inl h ↦ h
      | inr h ↦ absurd (clash met (none first (omega arith) h))
    ]

-- ---- no cycle is left out

covered-more : (row : Row) (rows : List Row) (cycle : ℕ) → IsCovered rows cycle → IsCovered (row ∷ rows) cycle
covered-more row rows cycle h = record { place = suc h.place; row = h.row; there = h.there; first = h.first; last = h.last }

-- The row that begins with a cycle is one of them.
pub record Has (rows : List Row) (row : Row) : Type 0 where
  pub place : ℕ
  pub there : slice_get rows place ≡ Some row

has-row : (shows goes_on : ℕ → Bool) (cycles : ℕ) (n first cycle : ℕ) → first ≤ cycle → cycle < first + n → begins shows goes_on cycle ≡ true →
    Has (rows_from shows goes_on cycles first n) (row_from goes_on cycles cycle)
has-row shows goes_on cycles zero first cycle low high met = absurd (omega arith)
has-row shows goes_on cycles (suc n) first cycle low high met = elim (cases_eq cycle first) [
  | inl here ↦
      subst (λ (rows : List Row). Has rows (row_from goes_on cycles cycle)) (sym (here-yes shows goes_on cycles first n (sym (ap (begins shows goes_on) here) ∙ met)))
      (record { place = 0; there = ap (λ (k : ℕ). Some (row_from goes_on cycles k)) (sym here) })
  | inr apart ↦
      (let rest = has-row shows goes_on cycles n (first + 1) cycle (omega arith) (omega arith) met in
      elim (cases_Bool (begins shows goes_on first)) [
        | inl yes_here ↦
            subst (λ (rows : List Row). Has rows (row_from goes_on cycles cycle)) (sym (here-yes shows goes_on cycles first n yes_here)) (record { place = suc rest.place; there = rest.there })
        | inr no_here ↦ subst (λ (rows : List Row). Has rows (row_from goes_on cycles cycle)) (sym (here-no shows goes_on cycles first n no_here)) rest
      ])
]

-- With a cycle that shows something, there is one with which its row begins.
pub record HasStart (shows goes_on : ℕ → Bool) (cycles cycle : ℕ) : Type 0 where
  pub first : ℕ
  pub begun : 1 ≤ first
  pub not_later : first ≤ cycle
  pub met : begins shows goes_on first ≡ true
  pub reaches : cycle ≤ last_from goes_on cycles first

has-start : (shows goes_on : ℕ → Bool) (cycles : ℕ) → IsRun shows goes_on → (cycle : ℕ) → cycle ≤ cycles → shows cycle ≡ true → HasStart shows goes_on cycles cycle
has-start shows goes_on cycles run zero within shown = absurd (clash shown run.quiet)
has-start shows goes_on cycles run (suc cycle) within shown =
    elim (cases_Bool (goes_on cycle)) [
      | inl on ↦
          (let before = has-start shows goes_on cycles run cycle (omega arith) (run.alike cycle on ∙ ap shows next ∙ shown) in
          record {
            first = before.first;
            begun = before.begun;
            not_later = (let order = before.not_later in omega arith);
            met = before.met;
            reaches = longer before on;
          })
      | inr off ↦
          record {
            first = suc cycle;
            begun = omega arith;
            not_later = omega arith;
            met = and_from (shows (suc cycle)) (not (goes_on (suc cycle - 1))) shown (ap (λ (k : ℕ). not (goes_on k)) back ∙ ap not off);
            reaches = (up-to goes_on cycles (suc cycle) (cycles - suc cycle) (omega arith)).in_order;
          }
    ]
  where
    next : cycle + 1 ≡ suc cycle
    next = omega arith

    back : suc cycle - 1 ≡ cycle
    back = omega arith

    longer : (before : HasStart shows goes_on cycles cycle) → goes_on cycle ≡ true → suc cycle ≤ last_from goes_on cycles before.first
    longer before on =
        let begun = before.begun in
        let order = before.not_later in
        let reaches = before.reaches in
        let up = up-to goes_on cycles before.first (cycles - before.first) (omega arith) in
        elim (cases_eq cycle (last_from goes_on cycles before.first)) [
          | inl last ↦ absurd (clash (sym (ap goes_on last) ∙ on) (up.ends (omega arith)))
          | inr apart ↦ omega arith
        ]

pub are-rows : (shows goes_on : ℕ → Bool) (cycles : ℕ) → IsRun shows goes_on → AreRows shows goes_on cycles 0 (rows_of shows goes_on cycles)
unfolding rows_of
are-rows shows goes_on cycles run = record {
  longest = each-longest shows goes_on cycles run cycles 1 (omega arith) (omega arith);
  in_order = each-later shows goes_on cycles cycles 1 0 (omega arith) (omega arith) (λ cycle low high. absurd (omega arith));
  all = λ cycle begun within shown. covered cycle within shown;
}
  where
    covered : (cycle : ℕ) → cycle ≤ cycles → shows cycle ≡ true → IsCovered (rows_from shows goes_on cycles 1 cycles) cycle
    covered cycle within shown =
        let start = has-start shows goes_on cycles run cycle within shown in
        let begun = start.begun in
        let order = start.not_later in
        let found = has-row shows goes_on cycles cycles 1 start.first (omega arith) (omega arith) start.met in
        record { place = found.place; row = row_from goes_on cycles start.first; there = found.there; first = start.not_later; last = start.reaches }
