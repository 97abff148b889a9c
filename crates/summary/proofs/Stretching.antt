-- The stretches of a legal journal, by cycles.
use Rattle.std.proofs.Common.{◌≡◌, ◌⊎◌, ℕ, zero, suc, ◌+◌, ◌-◌, ◌≤◌, Bool, true, false, ◌&&◌, cond, eqb, List, [], ◌∷◌, ◌++◌, Option, Some, refl, sym, ap, ap₂, ◌∙◌, subst, arith, inl, inr, eq-eqb, ne_eqb}
use Rattle.std.specs.Prelude.{filter, map, slice_get}
use Rattle.std.specs.List.{range_with_len}
use Rattle.std.proofs.lemmas.Bool.{and_from, and_left, and_right, cases_Bool, cases_eq, cond-false, cond-true}
use Rattle.acas_base.specs.declared.advisory.Cells.{Cells}
use Rattle.acas_base.specs.declared.entry.Entry.{Entry}
use Rattle.acas_base.specs.declared.entry.Entry.TheVariants.{Commit, Send, Take}
use Rattle.air_journal.specs.Cells.{commit_cells}
use Rattle.air_rules.proofs.Beginnings.{begins-on}
use Rattle.air_rules.proofs.Legal.{allowed, earlier, legal-begins}
use Rattle.air_rules.proofs.Pace.{count-no, count-yes}
use Rattle.air_rules.specs.Air.{Air}
use Rattle.air_rules.specs.Journal.{Begins, cell_at, commits, is_commit_of, last_cell, more, whole}
use Rattle.air_rules.specs.Rules.{IsLegal}
use Rattle.summary.specs.Laws.{AreStretches, HasCommit, IsLongest, begins_in, first_cycle}
use Rattle.summary.specs.Stretches.{begins, cell_in, cell_of, is_kept, lasts, start_of, starts_of, starts_with}
use Rattle.summary.specs.declared.rows.Start.{Start}
use Rattle.summary.proofs.Numbers.{map-last, passing-no, passing-yes}
use Rattle.summary.proofs.Rowing.{starts-apart, starts-no, starts-none, starts-own, starts-send, starts-take, starts-yes}

-- ---- cells by cycle

-- The cells of a commit.
here-cells : (K : List Entry) (own cycle : ℕ) (cells : Cells) (n : ℕ) → cycle ≡ n → commit_cells (Commit own cycle cells ∷ K) own n ≡ Some cells
here-cells K own cycle cells n same =
    cond-true (eqb own own && eqb cycle n) (Some cells) (commit_cells K own n) (and_from (eqb own own) (eqb cycle n) (eq-eqb own own refl) (eq-eqb cycle n same))

apart-cells : (K : List Entry) (craft own cycle : ℕ) (cells : Cells) (n : ℕ) → (craft ≡ own → ⊥) → commit_cells (Commit craft cycle cells ∷ K) own n ≡ commit_cells K own n
apart-cells K craft own cycle cells n apart = cond-false (eqb craft own && eqb cycle n) (Some cells) (commit_cells K own n) (and_left _ _ (ne_eqb craft own apart))

other-cells : (K : List Entry) (craft own cycle : ℕ) (cells : Cells) (n : ℕ) → (cycle ≡ n → ⊥) → commit_cells (Commit craft cycle cells ∷ K) own n ≡ commit_cells K own n
other-cells K craft own cycle cells n apart = cond-false (eqb craft own && eqb cycle n) (Some cells) (commit_cells K own n) (and_right (eqb craft own) _ (ne_eqb cycle n apart))

-- The last cell is that of the last cycle.
pub last-in : (air : Air) (K : List Entry) → IsLegal air K → (own other : ℕ) → cell_in K own other (commits K own) ≡ last_cell K own other
last-in air [] l own other = refl
last-in air (Send craft target number word ∷ K) l own other = last-in air K (earlier l) own other
last-in air (Take craft send copy good ∷ K) l own other = last-in air K (earlier l) own other
last-in air (Commit craft cycle cells ∷ K) l own other =
    let x = Commit craft cycle cells in
    let may = allowed l in
    elim (cases_eq craft own) [
      | inl same ↦
          (let count : commits (x ∷ K) own ≡ commits K own + 1 = count-yes (is_commit_of own) x K (eq-eqb craft own same) in
          let now : cycle ≡ commits (x ∷ K) own = may.cycle_is ∙ ap (λ (j : ℕ). commits K j + 1) same ∙ sym count in
          let found : commit_cells (x ∷ K) own (commits (x ∷ K) own) ≡ Some cells =
          cond-true (eqb craft own && eqb cycle (commits (x ∷ K) own)) (Some cells) (commit_cells K own (commits (x ∷ K) own)) (and_from _ _ (eq-eqb craft own same) (eq-eqb cycle (commits (x ∷ K) own) now)) in
          ap (λ (o : Option Cells). cell_of o other) found ∙ sym (cond-true (eqb craft own) (cell_at cells other) (last_cell K own other) (eq-eqb craft own same)))
      | inr apart ↦
          (let count : commits (x ∷ K) own ≡ commits K own = count-no (is_commit_of own) x K (ne_eqb craft own apart) in
          ap (λ (o : Option Cells). cell_of o other) (apart-cells K craft own cycle cells (commits (x ∷ K) own) apart ∙ ap (commit_cells K own) count)
          ∙ last-in air K (earlier l) own other ∙ sym (cond-false (eqb craft own) (cell_at cells other) (last_cell K own other) (ne_eqb craft own apart)))
    ]

-- One entry more changes no cells of the cycles before.
past-cells : (air : Air) (x : Entry) (K : List Entry) → IsLegal air (x ∷ K) → (own n : ℕ) → n ≤ commits K own → commit_cells (x ∷ K) own n ≡ commit_cells K own n
past-cells air (Send craft target number word) K l own n few = refl
past-cells air (Take craft send copy good) K l own n few = refl
past-cells air (Commit craft cycle cells) K l own n few =
    let may = allowed l in
    elim (cases_eq craft own) [
      | inl same ↦ other-cells K craft own cycle cells n (λ q. let next : cycle ≡ commits K own + 1 = may.cycle_is ∙ ap (λ (j : ℕ). commits K j + 1) same in omega arith)
      | inr apart ↦ apart-cells K craft own cycle cells n apart
    ]

more-commits : (x : Entry) (K : List Entry) (own : ℕ) → commits K own ≤ commits (x ∷ K) own
more-commits x K own = elim (cases_Bool (is_commit_of own x)) [
  | inl met ↦ (let count = count-yes (is_commit_of own) x K met in omega arith)
  | inr unmet ↦ (let count = count-no (is_commit_of own) x K unmet in omega arith)
]

pub grown : (K J : List Entry) → Begins K J → (own : ℕ) → commits K own ≤ commits J own
grown K J whole own = omega arith
grown K J (more {entry = x} {journal = L} b) own = (let so_far = grown K L b own in let one = more-commits x L own in omega arith)

pub cells-on : (air : Air) (K J : List Entry) → Begins K J → IsLegal air J → (own n : ℕ) → n ≤ commits K own → commit_cells J own n ≡ commit_cells K own n
cells-on air K J whole l own n few = refl
cells-on air K J (more {entry = x} {journal = L} b) l own n few =
    past-cells air x L l own n (let so_far = grown K L b own in omega arith) ∙ cells-on air K L b (earlier l) own n few

-- The cell of a commit, and the one before it.
pub record IsLinked (J K : List Entry) (own other cycle : ℕ) (cells : Cells) : Type 0 where
  pub count : commits (Commit own cycle cells ∷ K) own ≡ commits K own + 1
  pub cycle_is : cycle ≡ 1 + commits K own
  pub test : begins_in J own other cycle ≡ begins (last_cell K own other) (cell_at cells other)

pub linked : (air : Air) (J K : List Entry) → IsLegal air J → (own cycle : ℕ) (cells : Cells) → Begins (Commit own cycle cells ∷ K) J → (other : ℕ) → IsLinked J K own other cycle cells
linked air J K l own cycle cells b other =
    let x = Commit own cycle cells in
    let legal = legal-begins air b l in
    let count : commits (x ∷ K) own ≡ commits K own + 1 = count-yes (is_commit_of own) x K (eq-eqb own own refl) in
    let next : cycle ≡ commits K own + 1 = (allowed legal).cycle_is in
    let last : cycle - 1 ≡ commits K own = omega arith in
    let now : cell_in J own other cycle ≡ cell_at cells other =
    ap (λ (o : Option Cells). cell_of o other) (cells-on air (x ∷ K) J b l own cycle (omega arith) ∙ here-cells K own cycle cells cycle refl) in
    let before : cell_in J own other (cycle - 1) ≡ last_cell K own other =
    ap (cell_in J own other) last ∙ ap (λ (o : Option Cells). cell_of o other) (cells-on air K J (begins-on b (more whole)) l own (commits K own) (omega arith)) ∙ last-in air K (earlier legal) own other in
    record { count = count; cycle_is = omega arith; test = ap₂ begins before now }

-- ---- all of them

abbrev from_one : List Entry → ℕ → ℕ → ℕ → List ℕ
from_one J own other n = filter (begins_in J own other) (range_with_len 1 n)

all-commit : (air : Air) (J K : List Entry) → IsLegal air J → (own cycle : ℕ) (cells : Cells) → Begins (Commit own cycle cells ∷ K) J → (other : ℕ) →
    map first_cycle (starts_of air K own other) ≡ from_one J own other (commits K own) →
    map first_cycle (starts_of air (Commit own cycle cells ∷ K) own other) ≡ from_one J own other (commits (Commit own cycle cells ∷ K) own)
all-commit air J K l own cycle cells b other ih =
    let it = linked air J K l own cycle cells b other in
    let f = begins_in J own other in
    let n = commits K own in
    let test : f (1 + n) ≡ begins (last_cell K own other) (cell_at cells other) = ap f (sym it.cycle_is) ∙ it.test in
    elim (cases_Bool (begins (last_cell K own other) (cell_at cells other))) [
      | inl met ↦
          ap (map first_cycle) (starts-yes air K own cycle cells other met) ∙ map-last first_cycle (starts_of air K own other) (start_of air K own other cycle)
          ∙ ap₂ (λ (xs : List ℕ) (k : ℕ). xs ++ k ∷ []) ih it.cycle_is ∙ sym (passing-yes f 1 n (test ∙ met)) ∙ ap (from_one J own other) (sym it.count)
      | inr unmet ↦
          ap (map first_cycle) (starts-no air K own cycle cells other unmet) ∙ ih ∙ sym (passing-no f 1 n (test ∙ unmet)) ∙ ap (from_one J own other) (sym it.count)
    ]

pub all-starts : (air : Air) (J K : List Entry) → IsLegal air J → Begins K J → (own other : ℕ) → map first_cycle (starts_of air K own other) ≡ from_one J own other (commits K own)
all-starts air J [] l b own other = ap (map first_cycle) (starts-none air own other)
all-starts air J (Send craft target number word ∷ K) l b own other = ap (map first_cycle) (starts-send air K craft target number word own other) ∙ all-starts air J K l (begins-on b (more whole)) own other
all-starts air J (Take craft send copy good ∷ K) l b own other = ap (map first_cycle) (starts-take air K craft send copy good own other) ∙ all-starts air J K l (begins-on b (more whole)) own other
all-starts air J (Commit craft cycle cells ∷ K) l b own other =
    let ih = all-starts air J K l (begins-on b (more whole)) own other in
    elim (cases_eq craft own) [
      | inl same ↦
          subst (λ (n : ℕ). map first_cycle (starts_of air (Commit n cycle cells ∷ K) own other) ≡ from_one J own other (commits (Commit n cycle cells ∷ K) own)) (sym same)
          (all-commit air J K l own cycle cells (subst (λ (n : ℕ). Begins (Commit n cycle cells ∷ K) J) same b) other ih)
      | inr apart ↦
          ap (map first_cycle) (starts-apart air K craft cycle cells own other apart) ∙ ih
          ∙ ap (from_one J own other) (sym (count-no (is_commit_of own) (Commit craft cycle cells) K (ne_eqb craft own apart)))
    ]

-- ---- the longest ones

pub longest : (J : List Entry) (cycles own other first n : ℕ) → first + n ≡ cycles → IsLongest J cycles own other first (lasts (is_kept J own other) first n)
longest J cycles own other first zero all = record { in_order = omega arith; same = λ cycle low high. absurd (omega arith); ends = λ h. absurd (omega arith) }
longest J cycles own other first (suc n) all =
    let f = is_kept J own other in
    let rest = longest J cycles own other (first + 1) n (omega arith) in
    elim (cases_Bool (f first)) [
      | inl met ↦
          subst (IsLongest J cycles own other first) (sym (cond-true (f first) (lasts f (first + 1) n) first met))
          (record {
            in_order = (let later = rest.in_order in omega arith);
            same = λ cycle low high. elim (cases_eq cycle first) [
              | inl here ↦ ap f here ∙ met
              | inr apart ↦ rest.same cycle (omega arith) high
            ];
            ends = rest.ends;
          })
      | inr unmet ↦
          subst (IsLongest J cycles own other first) (sym (cond-false (f first) (lasts f (first + 1) n) first unmet))
          (record { in_order = omega arith; same = λ cycle low high. absurd (omega arith); ends = λ h. unmet })
    ]

-- ---- the commits with which they begin

has-more : (air : Air) (x : Entry) (K : List Entry) (own other : ℕ) (start : Start) → HasCommit air K own other start → HasCommit air (x ∷ K) own other start
has-more air x K own other start h = record { before = h.before; cells = h.cells; there = more h.there; told = h.told }

-- A member of two lists.
either : (xs ys : List Start) (k : ℕ) (start : Start) → slice_get (xs ++ ys) k ≡ Some start → ((j : ℕ) × (slice_get xs j ≡ Some start)) ⊎ ((j : ℕ) × (slice_get ys j ≡ Some start))
either [] ys k start is = inr (k, is)
either (x ∷ xs) ys zero start is = inl (zero, is)
either (x ∷ xs) ys (suc k) start is = elim (either xs ys k start is) [ inl h ↦ inl (suc h.0, h.1) | inr h ↦ inr h ]

with-commit : (air : Air) (K : List Entry) (own cycle : ℕ) (cells : Cells) (other k : ℕ) (start : Start) (b : Bool) → slice_get (cond b (start_of air K own other cycle ∷ []) []) k ≡ Some start →
    HasCommit air (Commit own cycle cells ∷ K) own other start
with-commit air K own cycle cells other k start false is = absurd (cc)
with-commit air K own cycle cells other (suc k) start true is = absurd (cc)
with-commit air K own cycle cells other zero start true is =
    let same : start_of air K own other cycle ≡ start = cc in
    subst (λ (s : Start). HasCommit air (Commit own cycle cells ∷ K) own other s) same (record { before = K; cells = cells; there = whole; told = refl })

pub has-commit : (air : Air) (K : List Entry) (own other k : ℕ) (start : Start) → slice_get (starts_of air K own other) k ≡ Some start → HasCommit air K own other start
has-commit air [] own other k start is = absurd (let z = ap (λ (xs : List Start). slice_get xs k) (sym (starts-none air own other)) ∙ is in cc)
has-commit air (Send craft target number word ∷ K) own other k start is =
    has-more air (Send craft target number word) K own other start (has-commit air K own other k start (ap (λ (xs : List Start). slice_get xs k) (sym (starts-send air K craft target number word own other)) ∙ is))
has-commit air (Take craft send copy good ∷ K) own other k start is =
    has-more air (Take craft send copy good) K own other start (has-commit air K own other k start (ap (λ (xs : List Start). slice_get xs k) (sym (starts-take air K craft send copy good own other)) ∙ is))
has-commit air (Commit craft cycle cells ∷ K) own other k start is = elim (cases_eq craft own) [
  | inl same ↦
      (let here : slice_get (starts_of air (Commit own cycle cells ∷ K) own other) k ≡ Some start = subst (λ (n : ℕ). slice_get (starts_of air (Commit n cycle cells ∷ K) own other) k ≡ Some start) same is in
      let member = either (starts_of air K own other) (starts_with air K own other cycle cells) k start (ap (λ (xs : List Start). slice_get xs k) (sym (starts-own air K own cycle cells other)) ∙ here) in
      subst (λ (n : ℕ). HasCommit air (Commit n cycle cells ∷ K) own other start) (sym same)
      (elim member [
        | inl h ↦ has-more air (Commit own cycle cells) K own other start (has-commit air K own other h.0 start h.1)
        | inr h ↦ with-commit air K own cycle cells other h.0 start (begins (last_cell K own other) (cell_at cells other)) h.1
      ]))
  | inr apart ↦
      has-more air (Commit craft cycle cells) K own other start
      (has-commit air K own other k start (ap (λ (xs : List Start). slice_get xs k) (sym (starts-apart air K craft cycle cells own other apart)) ∙ is))
]

pub are-stretches : (air : Air) (J : List Entry) → IsLegal air J → (own other : ℕ) → AreStretches air J own other
are-stretches air J l own other = record {
  all = all-starts air J J l whole own other;
  longest = λ first h. longest J air.cycles own other first (air.cycles - first) (omega arith);
  commit = λ place start is. has-commit air J own other place start is;
}
