-- The bars of an aircraft are its longest rows.
use Rattle.std.proofs.Common.{◌≡◌, ℕ, zero, suc, ◌+◌, ◌-◌, ◌<◌, ◌≤◌, Bool, true, false, not, ◌&&◌, ◌||◌, List, [], ◌∷◌, Option, Some, None, codes, is_some, sym, ap, ◌∙◌, arith, refl, inl}
use Rattle.std.specs.Cmp.Lexicographic.{pointwise, same_text}
use Rattle.std.specs.Prelude.{◌==◌}
use Rattle.std.specs.List.{AllByRecursion}
use Rattle.acas_base.specs.declared.advisory.Cells.{Cells}
use Rattle.acas_base.specs.declared.advisory.Strength.{Strength}
use Rattle.acas_base.specs.declared.advisory.Strength.TheVariants.{Limit2000, Limit1000, Limit500, Level, Positive, Increase}
use Rattle.acas_base.specs.declared.entry.Entry.{Entry}
use Rattle.advisory_report.specs.Composite.{shown, word_for, word_of}
use Rattle.advisory_report.specs.Phrases.{is_clear}
use Rattle.advisory_report.specs.Report.{is_same_word}
use Rattle.advisory_report.specs.declared.composite.Composite.{Composite}
use Rattle.air_journal.proofs.Adding.{no-cells}
use Rattle.air_rules.specs.Air.{Air}
use Rattle.air_rules.specs.Rules.{IsLegal}
use Rattle.equal_rows.proofs.Rowing.{are-rows}
use Rattle.equal_rows.specs.Rows.{IsLongest, IsRun}
use Rattle.equal_rows.specs.declared.row.Row.{Row}
use Rattle.picture.specs.Laws.{AreBars, IsBar}
use Rattle.picture.specs.Shown.{goes_on, is_alike, is_same_mark, is_shown, shown_in, shown_rows}

-- ---- what is alike

both-true : (a b : Bool) → a && b ≡ true → (a ≡ true) × (b ≡ true)
both-true true true h = (refl, refl)
both-true true false h = absurd (cc)
both-true false b h = absurd (cc)

same-mark : (a b : Bool) → is_same_mark a b ≡ true → a ≡ b
same-mark true b h = sym h
same-mark false true h = absurd (cc)
same-mark false false h = refl

pub same-word : (a b : Composite) → is_alike a b ≡ true → word_of a ≡ word_of b
unfolding is_alike
same-word a b h = same_text (word_of a) (word_of b) (sym (both-true (is_same_word a b) (is_same_mark a.corrective b.corrective) h).0)

pub same-corrective : (a b : Composite) → is_alike a b ≡ true → a.corrective ≡ b.corrective
unfolding is_alike
same-corrective a b h = same-mark a.corrective b.corrective (both-true (is_same_word a b) (is_same_mark a.corrective b.corrective) h).1

-- The word tells whether nothing is shown.
clear-by : (up down : Option Strength) (traffic : Bool) → not (is_some up || is_some down) && not traffic ≡ pointwise ◌==◌ (word_for up down traffic) (codes "CLEAR")
clear-by None None true = refl
clear-by None None false = refl
clear-by (Some Limit2000) None traffic = refl
clear-by (Some Limit1000) None traffic = refl
clear-by (Some Limit500) None traffic = refl
clear-by (Some Level) None traffic = refl
clear-by (Some Positive) None traffic = refl
clear-by (Some Increase) None traffic = refl
clear-by None (Some Limit2000) traffic = refl
clear-by None (Some Limit1000) traffic = refl
clear-by None (Some Limit500) traffic = refl
clear-by None (Some Level) traffic = refl
clear-by None (Some Positive) traffic = refl
clear-by None (Some Increase) traffic = refl
clear-by (Some up) (Some down) traffic = refl

alike-clear : (a b : Composite) → is_alike a b ≡ true → is_clear a ≡ is_clear b
alike-clear a b h = clear-by a.up a.down a.traffic ∙ ap (λ (w : List ℕ). pointwise ◌==◌ w (codes "CLEAR")) (same-word a b h) ∙ sym (clear-by b.up b.down b.traffic)

-- ---- a run

quiet : (air : Air) (J : List Entry) → IsLegal air J → (own : ℕ) → is_shown J own 0 ≡ false
unfolding shown_in
quiet air J l own = ap (λ (cells : Option Cells). not (is_clear (shown cells))) (no-cells air J l own 0 (inl refl))

pub is-run : (air : Air) (J : List Entry) → IsLegal air J → (own : ℕ) → IsRun (is_shown J own) (goes_on J own)
is-run air J l own = record {
  quiet = quiet air J l own;
  alike = λ cycle h. ap not (alike-clear (shown_in J own cycle) (shown_in J own (cycle + 1)) h);
}

-- ---- a row

-- What stays from each cycle to the next one stays from the first to the last.
kept-on : {X : Type 0} (f : ℕ → X) (first n last : ℕ) → ((cycle : ℕ) → first ≤ cycle → cycle < last → f cycle ≡ f (cycle + 1)) → first + n ≤ last → f (first + n) ≡ f first
kept-on f first zero last h within = ap f (let k : first + 0 ≡ first = omega arith in k)
kept-on f first (suc n) last h within =
    let next : (first + n) + 1 ≡ first + suc n = omega arith in
    sym (ap f next) ∙ sym (h (first + n) (omega arith) (omega arith)) ∙ kept-on f first n last h (omega arith)

kept-to : {X : Type 0} (f : ℕ → X) (first cycle last : ℕ) → ((k : ℕ) → first ≤ k → k < last → f k ≡ f (k + 1)) → first ≤ cycle → cycle ≤ last → f cycle ≡ f first
kept-to f first cycle last h low high = (let at : first + (cycle - first) ≡ cycle = omega arith in ap f (sym at)) ∙ kept-on f first (cycle - first) last h (omega arith)

not-shown : (b : Bool) → not b ≡ true → b ≡ false
not-shown true h = absurd (cc)
not-shown false h = refl

is-bar : (J : List Entry) (cycles own : ℕ) (row : Row) → IsLongest (is_shown J own) (goes_on J own) cycles row → IsBar J cycles own row
is-bar J cycles own row it = record {
  begun = it.begun;
  in_order = it.in_order;
  in_run = it.in_run;
  shown = λ cycle low high. not-shown (is_clear (shown_in J own cycle)) (it.shown cycle low high);
  word = λ cycle low high. kept-to (λ k. word_of (shown_in J own k)) row.first cycle row.last (λ k l h. same-word (shown_in J own k) (shown_in J own (k + 1)) (it.same k l h)) low high;
  mark = λ cycle low high. kept-to (λ k. (shown_in J own k).corrective) row.first cycle row.last (λ k l h. same-corrective (shown_in J own k) (shown_in J own (k + 1)) (it.same k l h)) low high;
  before = (let begun = it.begun in let back : (row.first - 1) + 1 ≡ row.first = omega arith in ap (λ k. is_alike (shown_in J own (row.first - 1)) (shown_in J own k)) (sym back) ∙ it.starts);
  after = it.ends;
}

each-is : {X : Type 0} (P Q : X → Type 0) → ((x : X) → P x → Q x) → (xs : List X) → AllByRecursion P xs → AllByRecursion Q xs
each-is P Q f [] h = tt
each-is P Q f (x ∷ xs) h = (f x h.0, each-is P Q f xs h.1)

pub are-bars : (air : Air) (J : List Entry) → IsLegal air J → (cycles own : ℕ) → AreBars J cycles own (shown_rows J cycles own)
are-bars air J l cycles own =
    let rows = are-rows (is_shown J own) (goes_on J own) cycles (is-run air J l own) in
    record {
      each = each-is (IsLongest (is_shown J own) (goes_on J own) cycles) (IsBar J cycles own) (is-bar J cycles own) (shown_rows J cycles own) rows.longest;
      in_order = rows.in_order;
      all = λ cycle begun within shown. rows.all cycle begun within (ap not shown);
    }
