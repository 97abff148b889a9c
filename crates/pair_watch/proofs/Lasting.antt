-- How long a row lasts.
use Rattle.std.proofs.Common.{◌≡◌, ◌≢◌, ℕ, ◌+◌, ◌<◌, ◌≤◌, ◌&&◌, true, false, cond, eqb, List, [], ◌∷◌, length, Option, Some, None, is_some, unwrap_or, refl, sym, ap, ◌∙◌, subst, arith, inl, inr, eq-eqb, eqb-true, ne_eqb}
use Rattle.std.proofs.lemmas.Bool.{and_from, and_left, and_right, cases_Bool, cond-false, cond-true}
use Rattle.acas_base.specs.Senses.{has_sense}
use Rattle.acas_base.specs.declared.advisory.Cell.{Cell}
use Rattle.acas_base.specs.declared.advisory.Cells.{Cells}
use Rattle.acas_base.specs.declared.advisory.Sense.{Sense}
use Rattle.acas_base.specs.declared.entry.Entry.{Entry}
use Rattle.acas_base.specs.declared.entry.Entry.TheVariants.{Commit, Send, Take}
use Rattle.air_rules.proofs.Beginnings.{begins-length}
use Rattle.air_rules.proofs.Positions.{chosen}
use Rattle.air_rules.specs.Journal.{Begins, cell_at, last_cell, more, whole}
use Rattle.air_journal.specs.Ranges.{IsEntry}
use Rattle.pair_watch.specs.Watching.{HasCells, equal_sense, is_at, is_pair_commit, last_of, pair_cell, row_began}
use Rattle.pair_watch.proofs.Steps.{cell-stays, equal-stays, high-ends, high-goes, low-ends, low-goes, neither-is, row-ends, row-goes, row-stays, row-within}

-- ---- an entry after a row that lasts

pub cell-none : (x : Entry) (low high : ℕ) → pair_cell x low high ≡ None → is_pair_commit low high x ≡ false
cell-none (Commit own cycle cells) low high e = elim (chosen (eqb own high) (Some (cell_at cells low)) (cond (eqb own low) (Some (cell_at cells high)) None) None e) [
  | inl h ↦ absurd (let f = h.1 in cc)
  | inr h ↦ elim (chosen (eqb own low) (Some (cell_at cells high)) None None h.1) [
    | inl g ↦ absurd (let f = g.1 in cc)
    | inr g ↦ neither-is (eqb own low) (eqb own high) g.0 h.0
  ]
]
cell-none (Send own target number word) low high e = refl
cell-none (Take own send copy good) low high e = refl

-- What a commit of one of the two does to the row.
pub record Moves (x : Entry) (K : List Entry) (low high : ℕ) (cell : Cell) (sense : Sense) : Type 0 where
  pub commit : is_pair_commit low high x ≡ true
  pub goes : has_sense cell sense ≡ true → equal_sense (x ∷ K) low high ≡ Some sense
  pub ends : has_sense cell sense ≡ false → is_some (equal_sense (x ∷ K) low high) ≡ false

moves-high : (K : List Entry) (low high cycle : ℕ) (cells : Cells) (sense : Sense) → low ≢ high → equal_sense K low high ≡ Some sense → Moves (Commit high cycle cells) K low high (cell_at cells low) sense
moves-high K low high cycle cells sense ne equal =
    let x = Commit high cycle cells in
    let cell = cell_at cells low in
    let apart : eqb high low ≡ false = ne_eqb high low (λ e. ne (sym e)) in
    let same : eqb high high ≡ true = eq-eqb high high refl in
    let high_is : last_cell (x ∷ K) high low ≡ cell = cond-true (eqb high high) cell (last_cell K high low) same in
    let low_is : last_cell (x ∷ K) low high ≡ last_cell K low high = cell-stays x K low high apart in
    record {
      commit = rw apart same;
      goes = λ has. rw (high_is, low_is) (high-goes (last_cell K high low) (last_cell K low high) cell sense equal has);
      ends = λ has. rw (high_is, low_is) (high-ends (last_cell K high low) (last_cell K low high) cell sense equal has);
    }

moves-low : (K : List Entry) (low high cycle : ℕ) (cells : Cells) (sense : Sense) → low ≢ high → equal_sense K low high ≡ Some sense → Moves (Commit low cycle cells) K low high (cell_at cells high) sense
moves-low K low high cycle cells sense ne equal =
    let x = Commit low cycle cells in
    let cell = cell_at cells high in
    let apart : eqb low high ≡ false = ne_eqb low high ne in
    let same : eqb low low ≡ true = eq-eqb low low refl in
    let low_is : last_cell (x ∷ K) low high ≡ cell = cond-true (eqb low low) cell (last_cell K low high) same in
    let high_is : last_cell (x ∷ K) high low ≡ last_cell K high low = cell-stays x K high low apart in
    record {
      commit = rw same refl;
      goes = λ has. rw (high_is, low_is) (low-goes (last_cell K high low) (last_cell K low high) cell sense equal has);
      ends = λ has. rw (high_is, low_is) (low-ends (last_cell K high low) (last_cell K low high) cell sense equal has);
    }

pub moves : (x : Entry) (K : List Entry) (low high : ℕ) (cell : Cell) (sense : Sense) → low ≢ high → pair_cell x low high ≡ Some cell → equal_sense K low high ≡ Some sense → Moves x K low high cell sense
moves (Commit own cycle cells) K low high cell sense ne e equal = elim (chosen (eqb own high) (Some (cell_at cells low)) (cond (eqb own low) (Some (cell_at cells high)) None) (Some cell) e) [
  | inl h ↦
      (let is : cell_at cells low ≡ cell = (let f = h.1 in cc) in
      subst (λ (c : Cell). Moves (Commit own cycle cells) K low high c sense) is (subst (λ (n : ℕ). Moves (Commit n cycle cells) K low high (cell_at cells low) sense) (sym (eqb-true own high h.0)) (moves-high K low high cycle cells sense ne equal)))
  | inr h ↦ elim (chosen (eqb own low) (Some (cell_at cells high)) None (Some cell) h.1) [
    | inl g ↦
        (let is : cell_at cells high ≡ cell = (let f = g.1 in cc) in
        subst (λ (c : Cell). Moves (Commit own cycle cells) K low high c sense) is (subst (λ (n : ℕ). Moves (Commit n cycle cells) K low high (cell_at cells high) sense) (sym (eqb-true own low g.0)) (moves-low K low high cycle cells sense ne equal)))
    | inr g ↦ absurd (let f = g.1 in cc)
  ]
]
moves (Send own target number word) K low high cell sense ne e equal = absurd (cc)
moves (Take own send copy good) K low high cell sense ne e equal = absurd (cc)

-- ---- the last commit of a row

pub at-is : (n : ℕ) (o : Option ℕ) → o ≡ Some n → is_at n o ≡ true
at-is n o e = ap (is_at n) e ∙ eq-eqb n n refl

at-not : (n : ℕ) (o : Option ℕ) → (o ≡ Some n → ⊥) → is_at n o ≡ false
at-not n None h = refl
at-not n (Some b) h = ne_eqb b n (λ e. h (ap Some e))

pub last-skips : (x : Entry) (K : List Entry) (low high from : ℕ) → (is_pair_commit low high x && is_at from (row_began (x ∷ K) low high)) ≡ false → last_of (x ∷ K) low high from ≡ last_of K low high from
last-skips x K low high from e = cond-false (is_pair_commit low high x && is_at from (row_began (x ∷ K) low high)) (Some (length K)) (last_of K low high from) e

pub record Lasts (K : List Entry) (low high from : ℕ) (sense : Sense) (last : ℕ) : Type 0 where
  pub row : row_began K low high ≡ Some from
  pub sense_is : equal_sense K low high ≡ Some sense
  pub last_is : last_of K low high from ≡ Some last

pub lasts-past : (x : Entry) (K : List Entry) (low high from : ℕ) (sense : Sense) (last : ℕ) → pair_cell x low high ≡ None → Lasts K low high from sense last → Lasts (x ∷ K) low high from sense last
lasts-past x K low high from sense last e is =
    let other = cell-none x low high e in
    record {
      row = row-stays x K low high other ∙ is.row;
      sense_is = equal-stays x K low high other ∙ is.sense_is;
      last_is = last-skips x K low high from (and_left _ _ other) ∙ is.last_is;
    }

pub lasts-on : (x : Entry) (K : List Entry) (low high from : ℕ) (sense : Sense) (last : ℕ) (cell : Cell) → low ≢ high → pair_cell x low high ≡ Some cell → has_sense cell sense ≡ true → Lasts K low high from sense last →
    Lasts (x ∷ K) low high from sense (length K)
lasts-on x K low high from sense last cell ne e has is =
    let m = moves x K low high cell sense ne e is.sense_is in
    let equal = m.goes has in
    let row : row_began (x ∷ K) low high ≡ Some from = row-goes x K low high m.commit (ap is_some equal) ∙ ap (λ (o : Option ℕ). Some (unwrap_or o (length K))) is.row in
    record {
      row = row;
      sense_is = equal;
      last_is = cond-true (is_pair_commit low high x && is_at from (row_began (x ∷ K) low high)) (Some (length K)) (last_of K low high from) (and_from _ _ m.commit (at-is from (row_began (x ∷ K) low high) row));
    }

-- A row that is over never comes again.
never : (low high from : ℕ) (L K : List Entry) → Begins L K → (row_began L low high ≡ Some from → ⊥) → from < length L → row_began K low high ≡ Some from → ⊥
never low high from L K whole gone within e = gone e
never low high from L K (more {entry = x} {journal = M} b) gone within e =
    let ih = never low high from L M b gone within in
    let longer : length L ≤ length M = begins-length L M b in
    elim (cases_Bool (is_pair_commit low high x)) [
      | inl commit ↦ elim (cases_Bool (is_some (equal_sense (x ∷ M) low high))) [
        | inl equal ↦ go M (row_began M low high) refl ih longer (sym (row-goes x M low high commit equal) ∙ e)
        | inr apart ↦ (let f = sym (row-ends x M low high commit apart) ∙ e in cc)
      ]
      | inr other ↦ ih (sym (row-stays x M low high other) ∙ e)
    ]
  where
    go : (M : List Entry) (o : Option ℕ) → row_began M low high ≡ o → (row_began M low high ≡ Some from → ⊥) → length L ≤ length M → Some (unwrap_or o (length M)) ≡ Some from → ⊥
    go M None f ih longer g = let h : length M ≡ from = cc in omega arith
    go M (Some a) f ih longer g = let h : a ≡ from = cc in ih (f ∙ ap Some h)

over : (low high from : ℕ) (L J : List Entry) → Begins L J → (row_began L low high ≡ Some from → ⊥) → from < length L → last_of J low high from ≡ last_of L low high from
over low high from L J whole gone within = refl
over low high from L J (more {entry = x} {journal = M} b) gone within =
    last-skips x M low high from (and_right _ _ (at-not from (row_began (x ∷ M) low high) (never low high from L (x ∷ M) (more b) gone within))) ∙ over low high from L M b gone within

pub lasts-no-more : (x : Entry) (K J : List Entry) (low high from : ℕ) (sense : Sense) (last : ℕ) (cell : Cell) → low ≢ high → pair_cell x low high ≡ Some cell → has_sense cell sense ≡ false → Lasts K low high from sense last → Begins (x ∷ K) J →
    last_of J low high from ≡ Some last
lasts-no-more x K J low high from sense last cell ne e has is b =
    let m = moves x K low high cell sense ne e is.sense_is in
    let none : row_began (x ∷ K) low high ≡ None = row-ends x K low high m.commit (m.ends has) in
    let gone : row_began (x ∷ K) low high ≡ Some from → ⊥ = λ f. (let g = sym none ∙ f in cc) in
    let within : from < length K = row-within K low high from is.row in
    over low high from (x ∷ K) J b gone (omega arith) ∙ last-skips x K low high from (and_right _ _ (at-not from (row_began (x ∷ K) low high) gone)) ∙ is.last_is

-- A row begins with a commit of the two, which is its last one so far.
pub lasts-first : (K : List Entry) (low high from : ℕ) → length K ≡ from + 1 → row_began K low high ≡ Some from → last_of K low high from ≡ Some from
lasts-first [] low high from size row = absurd (omega arith)
lasts-first (x ∷ K) low high from size row =
    let here : length K ≡ from = omega arith in
    elim (cases_Bool (is_pair_commit low high x)) [
      | inl commit ↦ cond-true (is_pair_commit low high x && is_at from (row_began (x ∷ K) low high)) (Some (length K)) (last_of K low high from) (and_from _ _ commit (at-is from (row_began (x ∷ K) low high) row)) ∙ ap Some here
      | inr other ↦ absurd (let h : from < length K = row-within K low high from (sym (row-stays x K low high other) ∙ row) in omega arith)
    ]

pub has-cells : (count : ℕ) (x : Entry) → IsEntry count x → HasCells x
has-cells count (Commit own cycle cells) fit = fit.2.size
has-cells count (Send own target number word) fit = tt
has-cells count (Take own send copy good) fit = tt
