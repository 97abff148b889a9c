-- The report, commit by commit.
use Rattle.std.proofs.Common.{◌≡◌, ℕ, ◌-◌, ◌*◌, ◌≤◌, ◌||◌, Bool, true, false, not, if◌then◌else◌, List, length, Option, Some, None, refl, ap, ◌∙◌, arith, inl}
use Rattle.std.specs.Prelude.{option_to_list}
use Rattle.std.proofs.Math.Nat.{mul-le-mul}
use Rattle.std.proofs.lemmas.Bool.{and_parts}
use Rattle.acas_base.specs.Encounter.{IsEncounter, Parts}
use Rattle.acas_base.specs.declared.advisory.Cells.{Cells}
use Rattle.acas_base.specs.declared.entry.Entry.{Entry}
use Rattle.acas_lines.proofs.Ranges.{length-flat}
use Rattle.advisory_report.specs.Composite.{clear, shown}
use Rattle.advisory_report.specs.Phrases.{aural_of}
use Rattle.advisory_report.specs.Report.{is_quiet, is_same_word, is_silent, report_line}
use Rattle.advisory_report.specs.declared.composite.Composite.{Composite}
use Rattle.air_journal.proofs.Adding.{no-cells}
use Rattle.air_journal.proofs.Bounds.{few-crafts}
use Rattle.air_journal.specs.Airs.{address_of, air_of}
use Rattle.air_journal.specs.Cells.{commit_cells}
use Rattle.air_rules.specs.Rules.{IsLegal}
use Rattle.rec_text.specs.Report.{commit_report, report_in, report_lines, report_of, shown_in}

-- Before its first commit an aircraft shows nothing.
pub shown-first : (e : Parts) (journal : List Entry) → IsLegal (air_of e) journal → (own : ℕ) → shown_in journal 0 own ≡ clear
shown-first e journal legal own = ap shown (no-cells (air_of e) journal legal own 0 (inl refl))

none-where : (same silent : Bool) (line : List ℕ) → same ≡ true → silent ≡ true → (if not same || not silent then Some line else None) ≡ None
none-where true true line a b = refl
none-where true false line a b = absurd (cc)
none-where false silent line a b = absurd (cc)

-- Where the word stays and nothing is said there is no line.
pub quiet-none : (cycle address : ℕ) (before after : Composite) → is_quiet before after ≡ true → report_line cycle address before after ≡ None
unfolding report_line
quiet-none cycle address before after quiet =
    let both = and_parts (is_same_word before after) (is_silent (aural_of before after)) quiet in
    none-where (is_same_word before after) (is_silent (aural_of before after)) _ both.0 both.1

-- The line for an aircraft's commit of a cycle, from what was read of it.
pub report-is : (e : Parts) (journal : List Entry) (cycle own address : ℕ) (before : Composite) (cells : Option Cells) →
    address ≡ address_of e own → before ≡ shown_in journal (cycle - 1) own → cells ≡ commit_cells journal own cycle → commit_report cycle address before cells ≡ report_of e journal cycle own
report-is e journal cycle own address before cells a b d =
    ap (λ (n : ℕ). commit_report cycle n before cells) a ∙ ap (λ (x : Composite). commit_report cycle (address_of e own) x cells) b
    ∙ ap (commit_report cycle (address_of e own) (shown_in journal (cycle - 1) own)) d

-- ---- how many lines there are

one-at-most : {X : Type 0} (o : Option X) → length (option_to_list o) ≤ 1
one-at-most None = omega arith
one-at-most (Some x) = omega arith

of-commit : (cycle address : ℕ) (before : Composite) (cells : Option Cells) → length (commit_report cycle address before cells) ≤ 1
of-commit cycle address before None = omega arith
of-commit cycle address before (Some cells) = one-at-most _

pub few-lines : (e : Parts) (journal : List Entry) → IsEncounter e → length (report_lines e journal) ≤ 9600
unfolding report_lines
few-lines e journal is =
    let n = length e.crafts in
    let crafts : n ≤ 16 = few-crafts e is in
    let cycles : e.cycles ≤ 600 = is.run.length.1 in
    let one : (k : ℕ) → length (report_in e journal k) ≤ n * 1 = λ k. length-flat (report_of e journal k) 1 0 n (λ own. of-commit k _ _ (commit_cells journal own k)) in
    let all : length (report_lines e journal) ≤ e.cycles * (n * 1) = length-flat (report_in e journal) (n * 1) 1 e.cycles one in
    let some : n * 1 ≤ 16 = omega arith in
    let most : e.cycles * (n * 1) ≤ 600 * 16 = mul-le-mul cycles some in
    omega arith
