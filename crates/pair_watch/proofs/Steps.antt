-- Rows of equal senses, entry by entry.
use Rattle.std.proofs.Common.{◌≡◌, ◌≢◌, ℕ, ◌+◌, ◌<◌, ◌||◌, Bool, true, false, cond, eqb, List, [], ◌∷◌, length, Option, Some, None, is_some, unwrap_or, refl, sym, ap, ◌∙◌, subst, arith, inl, inr, eq-eqb, eqb-true, ne_eqb}
use Rattle.std.specs.Prelude.{option_and_then}
use Rattle.std.proofs.lemmas.Bool.{cases_Bool, cases_eq, cond-false, cond-true}
use Rattle.acas_base.specs.Senses.{has_sense, sense_of}
use Rattle.acas_base.specs.declared.advisory.Cell.{Cell}
use Rattle.acas_base.specs.declared.advisory.Cells.{Cells}
use Rattle.acas_base.specs.declared.advisory.Sense.{Sense}
use Rattle.acas_base.specs.declared.entry.Entry.{Entry}
use Rattle.acas_base.specs.declared.entry.Entry.TheVariants.{Commit, Send, Take}
use Rattle.air_rules.proofs.Positions.{chosen}
use Rattle.air_rules.proofs.Running.{has-from, has-run-by-sense, run-sense, run-within, sense-has}
use Rattle.air_rules.specs.Journal.{cell_at, is_commit_of, last_cell}
use Rattle.air_rules.specs.Runs.{run_began}
use Rattle.journal_reader.specs.Reading.{present_run}
use Rattle.pair_watch.specs.Watching.{begun_sense, equal_sense, is_at, is_pair_commit, row_began}

-- ---- senses

-- The sense of two cells, where both have it.
abbrev pub equal_by : Cell → Cell → Option Sense
equal_by high low = option_and_then (λ sense. cond (has_sense low sense) (Some sense) None) (sense_of high)

pub record Agree (high low : Cell) (sense : Sense) : Type 0 where
  pub high_has : sense_of high ≡ Some sense
  pub low_has : sense_of low ≡ Some sense

pub agree : (high low : Cell) (sense : Sense) → equal_by high low ≡ Some sense → Agree high low sense
agree high low sense is = go (sense_of high) refl is
  where
    go : (o : Option Sense) → sense_of high ≡ o → option_and_then (λ s. cond (has_sense low s) (Some s) None) o ≡ Some sense → Agree high low sense
    go None e f = absurd (cc)
    go (Some s) e f = elim (chosen (has_sense low s) (Some s) None (Some sense) f) [
      | inl h ↦ (let same : s ≡ sense = (let g = h.1 in cc) in record { high_has = e ∙ ap Some same; low_has = sense-has low s h.0 ∙ ap Some same })
      | inr h ↦ absurd (let g = h.1 in cc)
    ]

pub agreed : (high low : Cell) (sense : Sense) → Agree high low sense → equal_by high low ≡ Some sense
agreed high low sense is =
    ap (option_and_then (λ s. cond (has_sense low s) (Some s) None)) is.high_has ∙ cond-true (has_sense low sense) (Some sense) None (has-from low sense is.low_has)

-- With another cell for one of the two they agree on, or don't any more.
not-some : (o : Option Sense) → ((s : Sense) → o ≡ Some s → ⊥) → is_some o ≡ false
not-some None h = refl
not-some (Some s) h = absurd (h s refl)

pub high-goes : (high low cell : Cell) (sense : Sense) → equal_by high low ≡ Some sense → has_sense cell sense ≡ true → equal_by cell low ≡ Some sense
high-goes high low cell sense is has = agreed cell low sense (record { high_has = sense-has cell sense has; low_has = (agree high low sense is).low_has })

pub low-goes : (high low cell : Cell) (sense : Sense) → equal_by high low ≡ Some sense → has_sense cell sense ≡ true → equal_by high cell ≡ Some sense
low-goes high low cell sense is has = agreed high cell sense (record { high_has = (agree high low sense is).high_has; low_has = sense-has cell sense has })

same-sense : (o : Option Sense) (s t : Sense) → o ≡ Some s → o ≡ Some t → t ≡ s
same-sense o s t e f = let g : Some t ≡ Some s = sym f ∙ e in cc

pub high-ends : (high low cell : Cell) (sense : Sense) → equal_by high low ≡ Some sense → has_sense cell sense ≡ false → is_some (equal_by cell low) ≡ false
high-ends high low cell sense is has = not-some (equal_by cell low) (λ s e.
    let a = agree cell low s e in
    let same : s ≡ sense = same-sense (sense_of low) sense s (agree high low sense is).low_has a.low_has in
    let yes : has_sense cell sense ≡ true = has-from cell sense (a.high_has ∙ ap Some same) in
    let z : true ≡ false = sym yes ∙ has in
    cc)

pub low-ends : (high low cell : Cell) (sense : Sense) → equal_by high low ≡ Some sense → has_sense cell sense ≡ false → is_some (equal_by high cell) ≡ false
low-ends high low cell sense is has = not-some (equal_by high cell) (λ s e.
    let a = agree high cell s e in
    let same : s ≡ sense = same-sense (sense_of high) sense s (agree high low sense is).high_has a.high_has in
    let yes : has_sense cell sense ≡ true = has-from cell sense (a.low_has ∙ ap Some same) in
    let z : true ≡ false = sym yes ∙ has in
    cc)

-- ---- cells

pub cell-stays : (x : Entry) (K : List Entry) (craft other : ℕ) → is_commit_of craft x ≡ false → last_cell (x ∷ K) craft other ≡ last_cell K craft other
cell-stays (Commit own cycle cells) K craft other e = cond-false (eqb own craft) (cell_at cells other) (last_cell K craft other) e
cell-stays (Send own target number word) K craft other e = refl
cell-stays (Take own send copy good) K craft other e = refl

pub run-stays : (x : Entry) (K : List Entry) (craft other : ℕ) (sense : Sense) → is_commit_of craft x ≡ false → run_began (x ∷ K) craft other sense ≡ run_began K craft other sense
run-stays (Commit own cycle cells) K craft other sense e = cond-false (eqb own craft) _ (run_began K craft other sense) e
run-stays (Send own target number word) K craft other sense e = refl
run-stays (Take own send copy good) K craft other sense e = refl

neither : (a b : Bool) → (a || b) ≡ false → (a ≡ false) × (b ≡ false)
neither true b e = absurd (cc)
neither false b e = (refl, e)

pub equal-stays : (x : Entry) (K : List Entry) (low high : ℕ) → is_pair_commit low high x ≡ false → equal_sense (x ∷ K) low high ≡ equal_sense K low high
equal-stays x K low high e =
    let n = neither (is_commit_of low x) (is_commit_of high x) e in
    ap (λ (c : Cell). option_and_then (λ s. cond (has_sense c s) (Some s) None) (sense_of (last_cell (x ∷ K) high low))) (cell-stays x K low high n.0)
    ∙ ap (λ (c : Cell). option_and_then (λ s. cond (has_sense (last_cell K low high) s) (Some s) None) (sense_of c)) (cell-stays x K high low n.1)

-- ---- rows

pub row-stays : (x : Entry) (K : List Entry) (low high : ℕ) → is_pair_commit low high x ≡ false → row_began (x ∷ K) low high ≡ row_began K low high
row-stays x K low high e = cond-false (is_pair_commit low high x) _ (row_began K low high) e

pub row-goes : (x : Entry) (K : List Entry) (low high : ℕ) → is_pair_commit low high x ≡ true → is_some (equal_sense (x ∷ K) low high) ≡ true → row_began (x ∷ K) low high ≡ Some (unwrap_or (row_began K low high) (length K))
row-goes x K low high e f = cond-true (is_pair_commit low high x) _ (row_began K low high) e ∙ cond-true (is_some (equal_sense (x ∷ K) low high)) _ None f

pub row-ends : (x : Entry) (K : List Entry) (low high : ℕ) → is_pair_commit low high x ≡ true → is_some (equal_sense (x ∷ K) low high) ≡ false → row_began (x ∷ K) low high ≡ None
row-ends x K low high e f = cond-true (is_pair_commit low high x) _ (row_began K low high) e ∙ cond-false (is_some (equal_sense (x ∷ K) low high)) _ None f

-- There is a row exactly where the senses are equal.
pub row-there : (K : List Entry) (low high : ℕ) → is_some (row_began K low high) ≡ is_some (equal_sense K low high)
row-there [] low high = refl
row-there (x ∷ K) low high =
    let ih = row-there K low high in
    elim (cases_Bool (is_pair_commit low high x)) [
      | inl commit ↦ elim (cases_Bool (is_some (equal_sense (x ∷ K) low high))) [
        | inl equal ↦ ap is_some (row-goes x K low high commit equal) ∙ sym equal
        | inr apart ↦ ap is_some (row-ends x K low high commit apart) ∙ sym apart
      ]
      | inr other ↦ ap is_some (row-stays x K low high other) ∙ ih ∙ ap is_some (sym (equal-stays x K low high other))
    ]

pub row-within : (K : List Entry) (low high b : ℕ) → row_began K low high ≡ Some b → b < length K
row-within [] low high b e = absurd (cc)
row-within (x ∷ K) low high b e =
    let ih = row-within K low high b in
    elim (cases_Bool (is_pair_commit low high x)) [
      | inl commit ↦ elim (cases_Bool (is_some (equal_sense (x ∷ K) low high))) [
        | inl equal ↦ go ih (row_began K low high) refl (sym (row-goes x K low high commit equal) ∙ e)
        | inr apart ↦ absurd (let f = sym (row-ends x K low high commit apart) ∙ e in cc)
      ]
      | inr other ↦ (let h : b < length K = ih (sym (row-stays x K low high other) ∙ e) in omega arith)
    ]
  where
    go : (row_began K low high ≡ Some b → b < length K) → (o : Option ℕ) → row_began K low high ≡ o → Some (unwrap_or o (length K)) ≡ Some b → b < length (x ∷ K)
    go ih None f g = let h : length K ≡ b = cc in omega arith
    go ih (Some a) f g = let h : a ≡ b = cc in let k : b < length K = ih (f ∙ ap Some h) in omega arith

-- ---- where a row begins

pub at-within : (o : Option ℕ) (n : ℕ) → ((b : ℕ) → o ≡ Some b → b < n) → is_at n o ≡ false
at-within None n h = refl
at-within (Some b) n h = ne_eqb b n (λ e. (let k = h b refl in omega arith))

some-none : (o : Option ℕ) → is_some o ≡ false → o ≡ None
some-none None e = refl
some-none (Some b) e = absurd (cc)

-- The run of an aircraft in a sense, where its last cell has it.
pub present-is : (K : List Entry) (own other : ℕ) (sense : Sense) → sense_of (last_cell K own other) ≡ Some sense → present_run K own other ≡ run_began K own other sense
present-is K own other sense e = ap (option_and_then (λ s. run_began K own other s)) e

-- At a commit of one of the two, the row begins exactly where its own run does.
commit-row : (K : List Entry) (own other cycle low high : ℕ) (cells : Cells) (sense : Sense) → is_commit_of other (Commit own cycle cells) ≡ false → is_pair_commit low high (Commit own cycle cells) ≡ true →
    sense_of (cell_at cells other) ≡ Some sense → sense_of (last_cell K other own) ≡ Some sense → equal_sense (Commit own cycle cells ∷ K) low high ≡ Some sense →
    (sense_of (last_cell K own other) ≡ Some sense → is_some (equal_sense K low high) ≡ true) → (is_some (equal_sense K low high) ≡ true → sense_of (last_cell K own other) ≡ Some sense) →
    is_at (length K) (row_began (Commit own cycle cells ∷ K) low high) ≡ is_at (length K) (run_began (Commit own cycle cells ∷ K) own other sense)
commit-row K own other cycle low high cells sense apart commit mine theirs equal to from =
    ap (is_at (length K)) (row-goes x K low high commit (ap is_some equal)) ∙ elim (cases_Bool (is_some (equal_sense K low high))) [
      | inl was ↦
          (let last = from was in
          at_same (row_began K low high) (run_began K own other sense) (row-there K low high ∙ was) ((has-run-by-sense.there K own other sense).0 last) (row-within K low high) (run-within K own other sense))
      | inr before ↦
          (let none : run_began K own other sense ≡ None = some-none (run_began K own other sense) (not_there (run_began K own other sense) refl before) in
          ap (λ (o : Option ℕ). is_at (length K) (Some (unwrap_or o (length K)))) (some-none (row_began K low high) (row-there K low high ∙ before) ∙ sym none))
    ] ∙ sym (ap (is_at (length K)) run)
  where
    x : Entry
    x = Commit own cycle cells

    run : run_began (Commit own cycle cells ∷ K) own other sense ≡ Some (unwrap_or (run_began K own other sense) (length K))
    run = cond-true (eqb own own) _ (run_began K own other sense) (eq-eqb own own refl) ∙ cond-true (has_sense (cell_at cells other) sense) _ None (has-from (cell_at cells other) sense mine)

    at_same : (o p : Option ℕ) → is_some o ≡ true → is_some p ≡ true → ((b : ℕ) → o ≡ Some b → b < length K) → ((b : ℕ) → p ≡ Some b → b < length K) →
        is_at (length K) (Some (unwrap_or o (length K))) ≡ is_at (length K) (Some (unwrap_or p (length K)))
    at_same None p a b f g = absurd (cc)
    at_same (Some o) None a b f g = absurd (cc)
    at_same (Some o) (Some p) a b f g = ne_eqb o (length K) (λ e. (let k = f o refl in omega arith)) ∙ sym (ne_eqb p (length K) (λ e. (let k = g p refl in omega arith)))

    not_there : (o : Option ℕ) → run_began K own other sense ≡ o → is_some (equal_sense K low high) ≡ false → is_some o ≡ false
    not_there None e f = refl
    not_there (Some b) e f = absurd (let g = to (run-sense K own other sense b e) in let z : true ≡ false = sym g ∙ f in cc)

either-left : (a b : Bool) → a ≡ true → (a || b) ≡ true
either-left true b e = refl
either-left false b e = absurd (cc)

either-right : (a b : Bool) → b ≡ true → (a || b) ≡ true
either-right true b e = refl
either-right false b e = e

pub neither-is : (a b : Bool) → a ≡ false → b ≡ false → (a || b) ≡ false
neither-is true b e f = absurd (cc)
neither-is false b e f = f

right-false : (a b : Bool) → b ≡ false → a ≡ (a || b)
right-false true b e = refl
right-false false b e = sym e

left-false : (a b : Bool) → a ≡ false → b ≡ (a || b)
left-false true b e = absurd (cc)
left-false false b e = refl

-- A run that was there before the entry doesn't begin with it.
old-run : (x : Entry) (K : List Entry) (own other : ℕ) (sense : Sense) → is_commit_of own x ≡ false → sense_of (last_cell (x ∷ K) own other) ≡ Some sense → is_at (length K) (present_run (x ∷ K) own other) ≡ false
old-run x K own other sense e f =
    ap (is_at (length K)) (present-is (x ∷ K) own other sense f ∙ run-stays x K own other sense e) ∙ at-within (run_began K own other sense) (length K) (run-within K own other sense)

is_some-is : (o : Option Sense) → is_some o ≡ true → (s : Sense) × (o ≡ Some s)
is_some-is None e = absurd (cc)
is_some-is (Some s) e = (s, refl)

abbrev Begins-by-runs : List Entry → ℕ → ℕ → ℕ → Type 0
Begins-by-runs K low high at = is_at at (row_began K low high) ≡ (is_at at (present_run K high low) || is_at at (present_run K low high))

by-other : (x : Entry) (K : List Entry) (low high : ℕ) (sense : Sense) → is_pair_commit low high x ≡ false → equal_sense (x ∷ K) low high ≡ Some sense → Begins-by-runs (x ∷ K) low high (length K)
by-other x K low high sense e equal =
    let n = neither (is_commit_of low x) (is_commit_of high x) e in
    let a = agree (last_cell (x ∷ K) high low) (last_cell (x ∷ K) low high) sense equal in
    ap (is_at (length K)) (row-stays x K low high e) ∙ at-within (row_began K low high) (length K) (row-within K low high)
    ∙ sym (neither-is (is_at (length K) (present_run (x ∷ K) high low)) (is_at (length K) (present_run (x ∷ K) low high)) (old-run x K high low sense n.1 a.high_has) (old-run x K low high sense n.0 a.low_has))

by-high : (K : List Entry) (low high cycle : ℕ) (cells : Cells) (sense : Sense) → low ≢ high → equal_sense (Commit high cycle cells ∷ K) low high ≡ Some sense → Begins-by-runs (Commit high cycle cells ∷ K) low high (length K)
by-high K low high cycle cells sense ne equal =
    let x = Commit high cycle cells in
    let apart : eqb high low ≡ false = ne_eqb high low (λ e. ne (sym e)) in
    let a = agree (last_cell (x ∷ K) high low) (last_cell (x ∷ K) low high) sense equal in
    let mine : sense_of (cell_at cells low) ≡ Some sense = ap sense_of (sym (cond-true (eqb high high) (cell_at cells low) (last_cell K high low) (eq-eqb high high refl))) ∙ a.high_has in
    let theirs : sense_of (last_cell K low high) ≡ Some sense = ap sense_of (sym (cell-stays x K low high apart)) ∙ a.low_has in
    commit-row K high low cycle low high cells sense apart (either-right (eqb high low) (eqb high high) (eq-eqb high high refl)) mine theirs equal
    (λ e. ap is_some (agreed (last_cell K high low) (last_cell K low high) sense (record { high_has = e; low_has = theirs })))
    (λ some.
    let s = is_some-is (equal_sense K low high) some in
    let b = agree (last_cell K high low) (last_cell K low high) s.0 s.1 in
    b.high_has ∙ ap Some (same-sense (sense_of (last_cell K low high)) sense s.0 theirs b.low_has))
    ∙ sym (ap (is_at (length K)) (present-is (x ∷ K) high low sense a.high_has))
    ∙ right-false (is_at (length K) (present_run (x ∷ K) high low)) (is_at (length K) (present_run (x ∷ K) low high)) (old-run x K low high sense apart a.low_has)

by-low : (K : List Entry) (low high cycle : ℕ) (cells : Cells) (sense : Sense) → low ≢ high → equal_sense (Commit low cycle cells ∷ K) low high ≡ Some sense → Begins-by-runs (Commit low cycle cells ∷ K) low high (length K)
by-low K low high cycle cells sense ne equal =
    let x = Commit low cycle cells in
    let apart : eqb low high ≡ false = ne_eqb low high ne in
    let a = agree (last_cell (x ∷ K) high low) (last_cell (x ∷ K) low high) sense equal in
    let mine : sense_of (cell_at cells high) ≡ Some sense = ap sense_of (sym (cond-true (eqb low low) (cell_at cells high) (last_cell K low high) (eq-eqb low low refl))) ∙ a.low_has in
    let theirs : sense_of (last_cell K high low) ≡ Some sense = ap sense_of (sym (cell-stays x K high low apart)) ∙ a.high_has in
    commit-row K low high cycle low high cells sense apart (either-left (eqb low low) (eqb low high) (eq-eqb low low refl)) mine theirs equal
    (λ e. ap is_some (agreed (last_cell K high low) (last_cell K low high) sense (record { high_has = theirs; low_has = e })))
    (λ some.
    let s = is_some-is (equal_sense K low high) some in
    let b = agree (last_cell K high low) (last_cell K low high) s.0 s.1 in
    b.low_has ∙ ap Some (same-sense (sense_of (last_cell K high low)) sense s.0 theirs b.high_has))
    ∙ sym (ap (is_at (length K)) (present-is (x ∷ K) low high sense a.low_has))
    ∙ left-false (is_at (length K) (present_run (x ∷ K) high low)) (is_at (length K) (present_run (x ∷ K) low high)) (old-run x K high low sense apart a.high_has)

by-entry : (x : Entry) (K : List Entry) (low high : ℕ) (sense : Sense) → low ≢ high → equal_sense (x ∷ K) low high ≡ Some sense → Begins-by-runs (x ∷ K) low high (length K)
by-entry (Commit own cycle cells) K low high sense ne equal = elim (cases_eq own high) [
  | inl same ↦ subst (λ (n : ℕ). equal_sense (Commit n cycle cells ∷ K) low high ≡ Some sense → Begins-by-runs (Commit n cycle cells ∷ K) low high (length K)) (sym same) (by-high K low high cycle cells sense ne) equal
  | inr apart ↦ elim (cases_eq own low) [
    | inl same ↦ subst (λ (n : ℕ). equal_sense (Commit n cycle cells ∷ K) low high ≡ Some sense → Begins-by-runs (Commit n cycle cells ∷ K) low high (length K)) (sym same) (by-low K low high cycle cells sense ne) equal
    | inr other ↦ by-other (Commit own cycle cells) K low high sense (neither-is (eqb own low) (eqb own high) (ne_eqb own low other) (ne_eqb own high apart)) equal
  ]
]
by-entry (Send own target number word) K low high sense ne equal = by-other (Send own target number word) K low high sense refl equal
by-entry (Take own send copy good) K low high sense ne equal = by-other (Take own send copy good) K low high sense refl equal

-- A row of equal senses begins with the last entry exactly where one of the two runs does.
pub row-by-runs : (K : List Entry) (low high at : ℕ) (sense : Sense) → low ≢ high → length K ≡ at + 1 → equal_sense K low high ≡ Some sense → Begins-by-runs K low high at
row-by-runs [] low high at sense ne size equal = absurd (omega arith)
row-by-runs (x ∷ K) low high at sense ne size equal = subst (Begins-by-runs (x ∷ K) low high) (let e : length K ≡ at = omega arith in e) (by-entry x K low high sense ne equal)

-- ---- a row that begins

pub at-true : (n : ℕ) (o : Option ℕ) → is_at n o ≡ true → o ≡ Some n
at-true n None e = absurd (cc)
at-true n (Some b) e = ap Some (eqb-true b n e)

pub record Begun (K : List Entry) (low high at : ℕ) (sense : Sense) : Type 0 where
  pub row : row_began K low high ≡ Some at
  pub sense_is : equal_sense K low high ≡ Some sense

pub begun : (K : List Entry) (low high at : ℕ) (sense : Sense) → begun_sense K low high at ≡ Some sense → Begun K low high at sense
begun K low high at sense e = elim (chosen (is_at at (row_began K low high)) (equal_sense K low high) None (Some sense) e) [
  | inl h ↦ record { row = at-true at (row_began K low high) h.0; sense_is = h.1 }
  | inr h ↦ absurd (let f = h.1 in cc)
]

pub begins-by : (K : List Entry) (low high at : ℕ) (sense : Sense) (test : Bool) → low ≢ high → length K ≡ at + 1 → equal_sense K low high ≡ Some sense →
    test ≡ (is_at at (present_run K high low) || is_at at (present_run K low high)) → cond test (Some sense) None ≡ begun_sense K low high at
begins-by K low high at sense test ne size equal is =
    ap (λ (t : Bool). cond t (Some sense) None) (is ∙ sym (row-by-runs K low high at sense ne size equal)) ∙ ap (λ (o : Option Sense). cond (is_at at (row_began K low high)) o None) (sym equal)
