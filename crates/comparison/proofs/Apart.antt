-- What each side alone has of the reports.
use Rattle.std.proofs.Common.{◌≡◌, ℕ, zero, suc, ◌+◌, ◌*◌, ◌<◌, ◌≤◌, ◌^◌, ◌-◌, eqb-true, eq-eqb, Bool, true, false, cond, eqb, List, [], ◌∷◌, ◌++◌, length, refl, sym, ap, ◌∙◌, arith, length-append, Option, Some, None, inl, inr}
use Rattle.std.specs.Prelude.{option_to_list}
use Rattle.std.specs.Cmp.Lexicographic.{pointwise}
use Rattle.std.specs.List.{flat_map, range_with_len}
use Rattle.std.proofs.Math.Nat.{mul-le-mul}
use Rattle.std.proofs.lemmas.Bool.{cases_eq}
use Rattle.std.proofs.lemmas.Bool.Decides.{Decides-eqb}
use Rattle.std.proofs.lemmas.Slice.Eq.{slice_eq-Decides}
use Rattle.acas_base.specs.Encounter.{IsEncounter}
use Rattle.acas_base.specs.declared.advisory.Cells.{Cells}
use Rattle.acas_lines.proofs.Ranges.{length-flat}
use Rattle.advisory_report.specs.declared.composite.Composite.{Composite}
use Rattle.air_journal.proofs.Adding.{no-cells}
use Rattle.air_journal.proofs.Bounds.{commits-past, few-crafts}
use Rattle.air_journal.specs.Airs.{address_of, air_of}
use Rattle.air_journal.specs.Cells.{commit_cells}
use Rattle.air_journal.specs.States.{State}
use Rattle.comparison.specs.Reports.{AreSameReports, apart, apart_in, apart_in_cycle, apart_lines, is_same, line_in}
use Rattle.comparison.specs.Sides.{told}
use Rattle.comparison.specs.declared.sides.Side.{Side}
use Rattle.comparison.specs.declared.sides.Side.TheVariants.{One, Other}
use Rattle.air_rules.specs.Journal.{commits}
use Rattle.air_rules.specs.Rules.{IsLegal}
use Rattle.rec_text.specs.Report.{commit_report, shown_in}

-- ---- one commit

none-told : (side : Side) (lines : List (List ℕ)) → told side lines ≡ [] → lines ≡ []
none-told side [] e = refl
none-told side (line ∷ lines) e = absurd cc

none-both : {X : Type 0} (xs ys : List X) → xs ++ ys ≡ [] → (xs ≡ []) × (ys ≡ [])
none-both [] ys e = (refl, e)
none-both (x ∷ xs) ys e = absurd cc

pub is-same : (xs ys : List (List ℕ)) (r : Bool) → r ≡ is_same xs ys → (r ≡ true → xs ≡ ys) × (xs ≡ ys → r ≡ true)
is-same xs ys r h = (slice_eq-Decides (λ (a b : List ℕ). slice_eq-Decides Decides-eqb a b (pointwise eqb a b) refl) xs ys r h)

pub none-apart : (xs ys : List (List ℕ)) → apart xs ys ≡ [] → xs ≡ ys
none-apart xs ys e = go (is_same xs ys) refl e
  where
    go : (b : Bool) → b ≡ is_same xs ys → cond b [] (told One xs ++ told Other ys) ≡ [] → xs ≡ ys
    go true h e = (is-same xs ys true h).0 refl
    go false h e = (let both = none-both (told One xs) (told Other ys) e in none-told One xs both.0 ∙ sym (none-told Other ys both.1))

pub apart-none : (xs ys : List (List ℕ)) → xs ≡ ys → apart xs ys ≡ []
apart-none xs ys e = ap (λ (b : Bool). cond b [] (told One xs ++ told Other ys)) ((is-same xs ys (is_same xs ys) refl).1 e)

-- ---- all commits

none-flat : {X : Type 0} (f : ℕ → List X) (first n : ℕ) → flat_map f (range_with_len first n) ≡ [] → (k : ℕ) → first ≤ k → k < first + n → f k ≡ []
none-flat f first zero e k low high = absurd (omega arith)
none-flat f first (suc n) e k low high =
    let both = none-both (f first) (flat_map f (range_with_len (first + 1) n)) e in
    elim (cases_eq k first) [
      | inl same ↦ ap f same ∙ both.0
      | inr apart ↦ none-flat f (first + 1) n both.1 k (omega arith) (omega arith)
    ]

flat-none : {X : Type 0} (f : ℕ → List X) (first n : ℕ) → ((k : ℕ) → first ≤ k → k < first + n → f k ≡ []) → flat_map f (range_with_len first n) ≡ []
flat-none f first zero h = refl
flat-none f first (suc n) h =
    ap (λ xs. xs ++ flat_map f (range_with_len (first + 1) n)) (h first (omega arith) (omega arith)) ∙ flat-none f (first + 1) n (λ k low high. h k (omega arith) (omega arith))

pub same-reports : (one other : State) → apart_lines one other ≡ [] → AreSameReports one other
unfolding apart_lines
same-reports one other e = λ cycle own low high within.
    none-apart (line_in one cycle own) (line_in other cycle own)
    (none-flat (apart_in one other cycle) 0 (length one.encounter.crafts) (none-flat (apart_in_cycle one other) 1 one.encounter.cycles e cycle low (omega arith)) own (omega arith) (omega arith))

pub no-lines : (one other : State) → AreSameReports one other → apart_lines one other ≡ []
unfolding apart_lines
no-lines one other same =
    flat-none (apart_in_cycle one other) 1 one.encounter.cycles (λ cycle low high.
    flat-none (apart_in one other cycle) 0 (length one.encounter.crafts) (λ own zero within.
    apart-none (line_in one cycle own) (line_in other cycle own) (same cycle own low (omega arith) (omega arith))))

-- ---- how many lines there are

pub few-in : (cycle address : ℕ) (before : Composite) (cells : Option Cells) → length (commit_report cycle address before cells) ≤ 1
few-in cycle address before None = omega arith
few-in cycle address before (Some cells) = at_most _
  where
    at_most : {X : Type 0} (o : Option X) → length (option_to_list o) ≤ 1
    at_most None = omega arith
    at_most (Some x) = omega arith

few-told : (side : Side) (lines : List (List ℕ)) → length lines ≤ 1 → length (told side lines) ≤ 2
few-told side [] h = omega arith
few-told side (line ∷ []) h = omega arith
few-told side (line ∷ next ∷ lines) h = absurd (omega arith)

few-cond : (b : Bool) (xs : List (List ℕ)) → length xs ≤ 4 → length (cond b [] xs) ≤ 4
few-cond true xs h = omega arith
few-cond false xs h = h

few-apart : (xs ys : List (List ℕ)) → length xs ≤ 1 → length ys ≤ 1 → length (apart xs ys) ≤ 4
few-apart xs ys h k =
    let a = few-told One xs h in
    let b = few-told Other ys k in
    few-cond (is_same xs ys) (told One xs ++ told Other ys) (omega (arith, length-append (told One xs) (told Other ys)))

pub few-lines : (one other : State) → IsEncounter one.encounter → length (apart_lines one other) < 2 ^ 32
unfolding apart_lines
few-lines one other is =
    let n = length one.encounter.crafts in
    let crafts : n ≤ 16 = few-crafts one.encounter is in
    let cycles : one.encounter.cycles ≤ 600 = is.run.length.1 in
    let each : (cycle own : ℕ) → length (apart_in one other cycle own) ≤ 4 = λ cycle own.
    few-apart (line_in one cycle own) (line_in other cycle own) (few-in cycle _ _ (commit_cells one.journal own cycle)) (few-in cycle _ _ (commit_cells other.journal own cycle)) in
    let in_cycle : (cycle : ℕ) → length (apart_in_cycle one other cycle) ≤ n * 4 = λ cycle. length-flat (apart_in one other cycle) 4 0 n (each cycle) in
    let all : length (apart_lines one other) ≤ one.encounter.cycles * (n * 4) = length-flat (apart_in_cycle one other) (n * 4) 1 one.encounter.cycles in_cycle in
    let some : n * 4 ≤ 64 = omega arith in
    let most : one.encounter.cycles * (n * 4) ≤ 600 * 64 = mul-le-mul cycles some in
    omega arith

-- ---- what their number tells

nil-length : {X : Type 0} (xs : List X) → length xs ≡ 0 → xs ≡ []
nil-length [] e = refl
nil-length (x ∷ xs) e = absurd (omega arith)

pub decided : (one other : State) (count : ℕ) → count ≡ length (apart_lines one other) → (eqb count 0 ≡ true → AreSameReports one other) × (AreSameReports one other → eqb count 0 ≡ true)
decided one other count is = (
  λ t. same-reports one other (nil-length (apart_lines one other) (sym is ∙ eqb-true count 0 t)),
  λ same. eq-eqb count 0 (is ∙ ap length (no-lines one other same)),
)

-- ---- no line

-- Past the last aircraft nothing is committed.
pub none-past : (state : State) (cycle own : ℕ) → IsEncounter state.encounter → IsLegal (air_of state.encounter) state.journal → 1 ≤ cycle → length state.encounter.crafts ≤ own → line_in state cycle own ≡ []
none-past state cycle own valid legal low past =
    let none : commits state.journal own ≡ 0 = commits-past state.encounter state.journal valid legal own past in
    ap (commit_report cycle (address_of state.encounter own) (shown_in state.journal (cycle - 1) own)) (no-cells (air_of state.encounter) state.journal legal own cycle (inr (omega arith)))
