-- What a commit changes in the rows of an aircraft.
use Rattle.std.proofs.Common.{◌≡◌, ◌≢◌, ℕ, zero, suc, ◌+◌, ◌*◌, ◌<◌, ◌≤◌, Bool, true, false, cond, eqb, List, [], ◌∷◌, ◌++◌, length, length-append, length-set, set, get_or, replicate, Option, None, refl, sym, ap, ◌∙◌, subst, arith, inl, inr, eq-eqb, ne_eqb}
use Rattle.std.proofs.lemmas.Bool.{cases_eq, cond-false, cond-true}
use Rattle.std.proofs.lemmas.List.{append-nil, get_or-set_other, get_or-set_same, length-replicate}
use Rattle.acas_base.specs.declared.TheConstants.{CRAFTS}
use Rattle.acas_base.specs.declared.advisory.Cells.{Cells}
use Rattle.acas_base.specs.declared.entry.Entry.{Entry}
use Rattle.acas_base.specs.declared.entry.Entry.TheVariants.{Commit, Send, Take}
use Rattle.air_rules.proofs.Pace.{count-no, count-yes}
use Rattle.air_rules.specs.Air.{Air}
use Rattle.air_rules.specs.Journal.{cell_at, commits, is_commit_of, last_cell}
use Rattle.summary.specs.Kept.{AreRows, IsRow, no_row, past_end, row_at}
use Rattle.summary.specs.Stretches.{begins, start_of, starts_of, starts_with}
use Rattle.summary.specs.declared.rows.Row.{Row}
use Rattle.summary.specs.declared.rows.Start.{Start}

-- ---- where stretches begin

pub starts-none : (air : Air) (own other : ℕ) → starts_of air [] own other ≡ []
unfolding starts_of
starts-none air own other = refl

pub starts-send : (air : Air) (K : List Entry) (craft target number word own other : ℕ) → starts_of air (Send craft target number word ∷ K) own other ≡ starts_of air K own other
unfolding starts_of
starts-send air K craft target number word own other = refl

pub starts-take : (air : Air) (K : List Entry) (craft send copy : ℕ) (good : Bool) (own other : ℕ) → starts_of air (Take craft send copy good ∷ K) own other ≡ starts_of air K own other
unfolding starts_of
starts-take air K craft send copy good own other = refl

pub starts-own : (air : Air) (K : List Entry) (own cycle : ℕ) (cells : Cells) (other : ℕ) →
    starts_of air (Commit own cycle cells ∷ K) own other ≡ starts_of air K own other ++ starts_with air K own other cycle cells
unfolding starts_of
starts-own air K own cycle cells other =
    cond-true (eqb own own) (starts_of air K own other ++ starts_with air K own other cycle cells) (starts_of air K own other) (eq-eqb own own refl)

pub starts-apart : (air : Air) (K : List Entry) (craft cycle : ℕ) (cells : Cells) (own other : ℕ) → craft ≢ own → starts_of air (Commit craft cycle cells ∷ K) own other ≡ starts_of air K own other
unfolding starts_of
starts-apart air K craft cycle cells own other apart =
    cond-false (eqb craft own) (starts_of air K own other ++ starts_with air K own other cycle cells) (starts_of air K own other) (ne_eqb craft own apart)

pub starts-yes : (air : Air) (K : List Entry) (own cycle : ℕ) (cells : Cells) (other : ℕ) → begins (last_cell K own other) (cell_at cells other) ≡ true →
    starts_of air (Commit own cycle cells ∷ K) own other ≡ starts_of air K own other ++ start_of air K own other cycle ∷ []
starts-yes air K own cycle cells other met =
    starts-own air K own cycle cells other
    ∙ ap (λ (xs : List Start). starts_of air K own other ++ xs) (cond-true (begins (last_cell K own other) (cell_at cells other)) (start_of air K own other cycle ∷ []) [] met)

pub starts-no : (air : Air) (K : List Entry) (own cycle : ℕ) (cells : Cells) (other : ℕ) → begins (last_cell K own other) (cell_at cells other) ≡ false →
    starts_of air (Commit own cycle cells ∷ K) own other ≡ starts_of air K own other
starts-no air K own cycle cells other unmet =
    starts-own air K own cycle cells other
    ∙ ap (λ (xs : List Start). starts_of air K own other ++ xs) (cond-false (begins (last_cell K own other) (cell_at cells other)) (start_of air K own other cycle ∷ []) [] unmet)
    ∙ append-nil (starts_of air K own other)

-- ---- the rows

pub no-rows : (air : Air) → AreRows air [] (replicate 256 no_row)
no-rows air = record {
  size = length-replicate 256 no_row;
  row = λ own other ho hb. subst (λ (s : List Start). IsRow s (row_at (replicate 256 no_row) own other)) (sym (starts-none air own other))
      (subst (λ (r : Row). IsRow [] r) (sym (nothing 256 (own * CRAFTS + other) (omega arith))) blank);
}
  where
    nothing : (n k : ℕ) → k < n → get_or (replicate n no_row) k past_end ≡ no_row
    nothing zero k h = absurd (omega arith)
    nothing (suc n) zero h = refl
    nothing (suc n) (suc k) h = nothing n k (omega arith)

    none : (n k : ℕ) → get_or (replicate n (let o : Option Start = None in o)) k None ≡ None
    none zero k = refl
    none (suc n) zero = refl
    none (suc n) (suc k) = none n k

    blank : IsRow [] no_row
    blank = record { count = refl; size = refl; each = λ k h. none 16 k }

-- Those against the first so many others are those after a commit, and all else is as before.
pub record AreUpTo (air : Air) (K : List Entry) (own cycle : ℕ) (cells : Cells) (count : ℕ) (rows : List Row) : Type 0 where
  pub size : length rows ≡ 256
  pub done : (other : ℕ) → other < count → IsRow (starts_of air (Commit own cycle cells ∷ K) own other) (row_at rows own other)
  pub rest : (other : ℕ) → count ≤ other → other < CRAFTS → IsRow (starts_of air K own other) (row_at rows own other)
  pub others : (a b : ℕ) → a < CRAFTS → b < CRAFTS → a ≢ own → IsRow (starts_of air K a b) (row_at rows a b)

pub none-yet : (air : Air) (K : List Entry) (own cycle : ℕ) (cells : Cells) (rows : List Row) → own < CRAFTS → AreRows air K rows → AreUpTo air K own cycle cells 0 rows
none-yet air K own cycle cells rows ho are = record {
  size = are.size;
  done = λ other h. absurd (omega arith);
  rest = λ other low high. are.row own other ho high;
  others = λ a b ha hb apart. are.row a b ha hb;
}

pub all-done : (air : Air) (K : List Entry) (own cycle : ℕ) (cells : Cells) (rows : List Row) (count : ℕ) → count ≡ 16 → AreUpTo air K own cycle cells count rows → AreRows air (Commit own cycle cells ∷ K) rows
all-done air K own cycle cells rows count all up = record {
  size = up.size;
  row = λ a b ha hb. elim (cases_eq a own) [
    | inl same ↦ subst (λ (n : ℕ). IsRow (starts_of air (Commit own cycle cells ∷ K) n b) (row_at rows n b)) (sym same) (up.done b (omega arith))
    | inr apart ↦ subst (λ (s : List Start). IsRow s (row_at rows a b)) (sym (starts-apart air K own cycle cells a b (λ q. apart (sym q)))) (up.others a b ha hb apart)
  ];
}

-- No stretch begins against the next other one.
pub passed : (air : Air) (K : List Entry) (own cycle : ℕ) (cells : Cells) (other : ℕ) (rows : List Row) → other < CRAFTS → begins (last_cell K own other) (cell_at cells other) ≡ false →
    AreUpTo air K own cycle cells other rows → AreUpTo air K own cycle cells (other + 1) rows
passed air K own cycle cells other rows hb unmet up = record {
  size = up.size;
  done = λ b h. elim (cases_eq b other) [
    | inl same ↦
        subst (λ (n : ℕ). IsRow (starts_of air (Commit own cycle cells ∷ K) own n) (row_at rows own n)) (sym same)
        (subst (λ (s : List Start). IsRow s (row_at rows own other)) (sym (starts-no air K own cycle cells other unmet)) (up.rest other (omega arith) hb))
    | inr apart ↦ up.done b (omega arith)
  ];
  rest = λ b low high. up.rest b (omega arith) high;
  others = up.others;
}

-- One begins.
pub kept : (air : Air) (K : List Entry) (own cycle : ℕ) (cells : Cells) (other pair : ℕ) (rows : List Row) (row : Row) → pair ≡ own * CRAFTS + other → own < CRAFTS → other < CRAFTS →
    begins (last_cell K own other) (cell_at cells other) ≡ true → IsRow (starts_of air K own other ++ start_of air K own other cycle ∷ []) row →
    AreUpTo air K own cycle cells other rows → AreUpTo air K own cycle cells (other + 1) (set rows pair row)
kept air K own cycle cells other pair rows row p ho hb met is up = record {
  size = length-set rows pair row ∙ up.size;
  done = λ b h. elim (cases_eq b other) [
    | inl same ↦
        subst (λ (n : ℕ). IsRow (starts_of air (Commit own cycle cells ∷ K) own n) (row_at (set rows pair row) own n)) (sym same)
        (subst (λ (r : Row). IsRow (starts_of air (Commit own cycle cells ∷ K) own other) r) (sym (ap (λ (n : ℕ). get_or (set rows pair row) n past_end) (sym p) ∙ get_or-set_same rows pair row past_end (let n = up.size in omega arith)))
        (subst (λ (s : List Start). IsRow s row) (sym (starts-yes air K own cycle cells other met)) is))
    | inr apart ↦
        subst (λ (r : Row). IsRow (starts_of air (Commit own cycle cells ∷ K) own b) r) (sym (get_or-set_other rows pair (own * CRAFTS + b) row past_end (λ e. apart (omega arith)))) (up.done b (omega arith))
  ];
  rest = λ b low high. subst (λ (r : Row). IsRow (starts_of air K own b) r) (sym (get_or-set_other rows pair (own * CRAFTS + b) row past_end (λ e. omega arith))) (up.rest b (omega arith) high);
  others = λ a b ha hb2 apart. subst (λ (r : Row). IsRow (starts_of air K a b) r) (sym (get_or-set_other rows pair (a * CRAFTS + b) row past_end (λ e. apart (omega arith)))) (up.others a b ha hb2 apart);
}

-- ---- how many there are

few-more : (air : Air) (K : List Entry) (own cycle : ℕ) (cells : Cells) (other : ℕ) → length (starts_with air K own other cycle cells) ≤ 1
few-more air K own cycle cells other = elim (begins (last_cell K own other) (cell_at cells other)) as (λ b. length (cond b (start_of air K own other cycle ∷ []) []) ≤ 1) [ true ↦ omega arith | false ↦ omega arith ]

-- No more than commits.
pub few-starts : (air : Air) (K : List Entry) (own other : ℕ) → length (starts_of air K own other) ≤ commits K own
few-starts air [] own other = (let none = ap length (starts-none air own other) in omega arith)
few-starts air (Send craft target number word ∷ K) own other = (let few = few-starts air K own other in let same = ap length (starts-send air K craft target number word own other) in omega arith)
few-starts air (Take craft send copy good ∷ K) own other = (let few = few-starts air K own other in let same = ap length (starts-take air K craft send copy good own other) in omega arith)
few-starts air (Commit craft cycle cells ∷ K) own other =
    let few = few-starts air K own other in
    elim (cases_eq craft own) [
      | inl same ↦ subst (λ (n : ℕ). length (starts_of air (Commit n cycle cells ∷ K) own other) ≤ commits (Commit n cycle cells ∷ K) own) (sym same)
          (let more = ap length (starts-own air K own cycle cells other) ∙ length-append (starts_of air K own other) (starts_with air K own other cycle cells) in
          let one = few-more air K own cycle cells other in
          let count = count-yes (is_commit_of own) (Commit own cycle cells) K (eq-eqb own own refl) in
          omega arith)
      | inr apart ↦
          (let none = ap length (starts-apart air K craft cycle cells own other apart) in
          let count = count-no (is_commit_of own) (Commit craft cycle cells) K (ne_eqb craft own apart) in
          omega arith)
    ]

-- ---- entries that are no commits

pub rows-send : (air : Air) (K : List Entry) (craft target number word : ℕ) (rows : List Row) → AreRows air K rows → AreRows air (Send craft target number word ∷ K) rows
rows-send air K craft target number word rows are = record {
  size = are.size;
  row = λ own other ho hb. subst (λ (s : List Start). IsRow s (row_at rows own other)) (sym (starts-send air K craft target number word own other)) (are.row own other ho hb);
}

pub rows-take : (air : Air) (K : List Entry) (craft send copy : ℕ) (good : Bool) (rows : List Row) → AreRows air K rows → AreRows air (Take craft send copy good ∷ K) rows
rows-take air K craft send copy good rows are = record {
  size = are.size;
  row = λ own other ho hb. subst (λ (s : List Start). IsRow s (row_at rows own other)) (sym (starts-take air K craft send copy good own other)) (are.row own other ho hb);
}
