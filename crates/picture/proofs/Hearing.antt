-- The calls are those of the report, and their lines stand in the list.
use Rattle.std.proofs.Common.{◌≡◌, ℕ, zero, suc, ◌+◌, ◌-◌, ◌<◌, ◌≤◌, true, false, List, [], ◌∷◌, ◌++◌, Option, Some, None, cond, length, take, refl, sym, ap, ◌∙◌, subst, arith, inl, inr}
use Rattle.std.proofs.lemmas.Bool.{cases_Bool, cond-false, cond-true}
use Rattle.std.specs.Prelude.{◌==◌, codes, nat_le}
use Rattle.std.specs.List.{AllByRecursion}
use Rattle.acas_base.specs.Encounter.{Parts}
use Rattle.acas_base.specs.declared.advisory.Cells.{Cells}
use Rattle.acas_base.specs.declared.entry.Entry.{Entry}
use Rattle.advisory_report.specs.Composite.{composite_of}
use Rattle.advisory_report.specs.Phrases.{aural_of, is_clear, phrase_text}
use Rattle.advisory_report.specs.Report.{is_same_word, is_silent, line_text, report_line}
use Rattle.advisory_report.specs.declared.aural.Aural.{Aural}
use Rattle.advisory_report.specs.declared.aural.Aural.TheVariants as aurals
use Rattle.advisory_report.specs.declared.composite.Composite.{Composite}
use Rattle.air_journal.specs.Airs.{address_of}
use Rattle.air_journal.specs.Cells.{commit_cells}
use Rattle.labels.specs.Labels.{LabelWords, name_of}
use Rattle.page_marks.proofs.Bounded.{AreSmall, Good, IsPlace, all-append, good-boxes, good-words}
use Rattle.page_marks.specs.Paints.{box_marks}
use Rattle.page_marks.specs.Places.{area_at}
use Rattle.picture.specs.Bars.{advised}
use Rattle.picture.specs.Calls.{call_from, call_in, call_where, call_with}
use Rattle.picture.specs.Gathered.{call_lines}
use Rattle.plot_axes.specs.Time.{label_of}
use Rattle.picture.specs.Heard.{call_title, heading_marks, heard_marks, line_marks, line_y, lines, more_text, rest_marks, said_text, sense_marks, words_at, words_marks}
use Rattle.picture.specs.HeardLaws.{AreInList, AreReported, IsReported, list_from}
use Rattle.picture.specs.Shown.{shown_in}
use Rattle.picture.specs.declared.call.Call.{Call}
use Rattle.picture.specs.declared.gathered.CallLine.{CallLine}
use Rattle.svg_text.specs.Marks.{Mark}
use Rattle.svg_text.specs.declared.shapes.Anchor.TheVariants as anchors
use Rattle.svg_text.specs.declared.shapes.Weight.TheVariants as weights

-- ---- the report

-- What is said after a commit.
said : (aural : Aural) → is_silent aural ≡ true → aural ≡ aurals.Silent
said aurals.TrafficTraffic is = absurd (cc is)
said aurals.ClimbClimb is = absurd (cc is)
said aurals.DescendDescend is = absurd (cc is)
said aurals.ClimbCrossing is = absurd (cc is)
said aurals.DescendCrossing is = absurd (cc is)
said aurals.IncreaseClimb is = absurd (cc is)
said aurals.IncreaseDescent is = absurd (cc is)
said aurals.ClimbNow is = absurd (cc is)
said aurals.DescendNow is = absurd (cc is)
said aurals.Maintain is = absurd (cc is)
said aurals.LevelOff is = absurd (cc is)
said aurals.Monitor is = absurd (cc is)
said aurals.ClearOfConflict is = absurd (cc is)
said aurals.Silent is = refl

has-line : (cycle address : ℕ) (before after : Composite) → is_silent (aural_of before after) ≡ false → report_line cycle address before after ≡ Some (line_text cycle address before after)
unfolding report_line
has-line cycle address before after heard = elim (cases_Bool (is_same_word before after)) [
  | inl same ↦ rw same (rw heard refl)
  | inr other ↦ rw other refl
]

some≢none : (call : Call) → Some call ≡ None → ⊥
some≢none call same = cc same

call-is : (journal : List Entry) (cycle own : ℕ) (call made : Call) → made.cycle ≡ cycle → made.own ≡ own → made.heard ≡ aural_of (shown_in journal own (cycle - 1)) made.shown → call_where made ≡ Some call → IsReported journal cycle own call
call-is journal cycle own call made cycle_is own_is heard_is there = elim (cases_Bool (is_silent made.heard)) [
  | inl silent ↦ absurd (some≢none call (sym there ∙ cond-true (is_silent made.heard) None (Some made) silent))
  | inr heard ↦ (
      let same : made ≡ call = cc (sym (cond-false (is_silent made.heard) None (Some made) heard) ∙ there) in
      subst (IsReported journal cycle own) same (record {
        cycle_is = cycle_is;
        own_is = own_is;
        heard_is = heard_is;
        line_is = λ address. has-line cycle address (shown_in journal own (cycle - 1)) made.shown (ap is_silent (sym heard_is) ∙ heard);
      }))
]

called : (journal : List Entry) (cycle own : ℕ) (call : Call) (cells : Option Cells) → call_from cycle own (shown_in journal own (cycle - 1)) cells ≡ Some call → IsReported journal cycle own call
called journal cycle own call None there = absurd (some≢none call (sym there))
called journal cycle own call (Some cells) there =
    let before = shown_in journal own (cycle - 1) in
    let after = composite_of cells in
    call-is journal cycle own call (record { cycle = cycle; own = own; shown = after; heard = aural_of before after }) refl refl refl there

unsaid : (cycle own : ℕ) (before after : Composite) → call_with cycle own before after ≡ None → aural_of before after ≡ aurals.Silent
unsaid cycle own before after none = elim (cases_Bool (is_silent (aural_of before after))) [
  | inl silent ↦ said (aural_of before after) silent
  | inr heard ↦ (
      let call : Call = record { cycle = cycle; own = own; shown = after; heard = aural_of before after } in
      absurd (some≢none call (sym (cond-false (is_silent (aural_of before after)) None (Some call) heard) ∙ none)))
]

silent-commit : (journal : List Entry) (cycle own : ℕ) (cells : Cells) (committed : Option Cells) → committed ≡ Some cells → call_from cycle own (shown_in journal own (cycle - 1)) committed ≡ None →
    aural_of (shown_in journal own (cycle - 1)) (composite_of cells) ≡ aurals.Silent
silent-commit journal cycle own cells None some none = absurd (cc some)
silent-commit journal cycle own cells (Some other) some none =
    let same : other ≡ cells = cc some in
    let before = shown_in journal own (cycle - 1) in
    ap (λ (c : Cells). aural_of before (composite_of c)) (sym same) ∙ unsaid cycle own before (composite_of other) none

pub are-reported : (journal : List Entry) → AreReported journal
unfolding call_in
are-reported journal = record {
  call_is = λ cycle own call there. called journal cycle own call (commit_cells journal own cycle) there;
  silent = λ cycle own cells some none. ap phrase_text (silent-commit journal cycle own cells (commit_cells journal own cycle) some none);
}

-- ---- the list

small : (top : ℕ) → top ≤ 40000 → AreSmall (list_from top)
small top most = record { right = omega arith; bottom = omega arith }

place : (top x y : ℕ) → 8800 ≤ x → x ≤ 19600 → top ≤ y → y ≤ top + 6600 → IsPlace (list_from top) x y
place top x y left right above below = record { left = left; right = right; top = above; bottom = below }

good-sense : (top y : ℕ) (shown : Composite) (title : List ℕ) → top ≤ 40000 → top + 750 ≤ y → y ≤ top + 6500 → AllByRecursion (Good (list_from top)) (sense_marks y shown title)
unfolding sense_marks
good-sense top y shown title most above below =
    let P = AllByRecursion (Good (list_from top)) in
    let marks = box_marks (advised shown) (area_at 8800 (y - 170) 160 190) title in
    elim (cases_Bool (is_clear shown)) [
      | inl clear ↦ subst P (sym (cond-true (is_clear shown) [] marks clear)) tt
      | inr there ↦ subst P (sym (cond-false (is_clear shown) [] marks there))
          (good-boxes (list_from top) 8800 (y - 170) 160 190 (advised shown) title (small top most) (place top 8800 (y - 170) (omega arith) (omega arith) (omega arith) (omega arith)) (place top (8800 + 160) (y - 170 + 190) (omega arith) (omega arith) (omega arith) (omega arith)))
    ]

good-line : (top number : ℕ) (e : Parts) (labels : LabelWords) (it : CallLine) → top ≤ 40000 → number < 22 → AllByRecursion (Good (list_from top)) (line_marks top e labels number it)
unfolding line_marks
good-line top number e labels it most few =
    let call = it.call in
    let bounds = list_from top in
    let P = Good bounds in
    let y = line_y top number in
    let address = address_of e call.own in
    let name = name_of labels address in
    let label = label_of labels.start call.cycle in
    let phrase = said_text (phrase_text call.heard) it.calls in
    let one = good-words bounds 10150 y 240 anchors.End weights.Regular label [] (omega arith) (small top most) (place top 10150 y (omega arith) (omega arith) (omega arith) (omega arith)) in
    let two = good-words bounds 10300 y 240 anchors.Start weights.Bold name [] (omega arith) (small top most) (place top 10300 y (omega arith) (omega arith) (omega arith) (omega arith)) in
    let three = good-words bounds 11700 y 240 anchors.Start weights.Regular phrase [] (omega arith) (small top most) (place top 11700 y (omega arith) (omega arith) (omega arith) (omega arith)) in
    all-append P (sense_marks y call.shown (call_title address call.cycle call.shown)) (words_marks y label name phrase)
    (good-sense top y call.shown (call_title address call.cycle call.shown) most (omega arith) (omega arith))
    (one, (two, (three, tt)))

good-lines : (top : ℕ) (e : Parts) (labels : LabelWords) (number room : ℕ) (xs : List CallLine) → top ≤ 40000 → number + room ≤ 22 → AllByRecursion (Good (list_from top)) (lines top e labels number (take room xs))
good-lines top e labels number zero xs most few = tt
good-lines top e labels number (suc room) [] most few = tt
good-lines top e labels number (suc room) (call ∷ xs) most few =
    all-append (Good (list_from top)) (line_marks top e labels number call) (lines top e labels (number + 1) (take room xs))
    (good-line top number e labels call most (omega arith))
    (good-lines top e labels (number + 1) room xs most (omega arith))

good-words-at : (top number : ℕ) (words : List ℕ) → top ≤ 40000 → number ≤ 22 → AllByRecursion (Good (list_from top)) (words_at (line_y top number) words)
good-words-at top number words most few =
    (good-words (list_from top) 10300 (line_y top number) 240 anchors.Start weights.Regular words [] (omega arith) (small top most) (place top 10300 (line_y top number) (omega arith) (omega arith) (omega arith) (omega arith)), tt)

good-rest : (top count : ℕ) → top ≤ 40000 → AllByRecursion (Good (list_from top)) (rest_marks top count)
unfolding rest_marks
good-rest top count most =
    let P = AllByRecursion (Good (list_from top)) in
    let none = words_at (line_y top 0) (codes "nothing") in
    let more = words_at (line_y top 22) (more_text (count - 22)) in
    let some : List Mark = cond (nat_le count 22) [] more in
    elim (cases_Bool (count == 0)) [
      | inl zero_is ↦ subst P (sym (cond-true (count == 0) none some zero_is)) (good-words-at top 0 (codes "nothing") most (omega arith))
      | inr above ↦ subst P (sym (cond-false (count == 0) none some above)) (elim (cases_Bool (nat_le count 22)) [
        | inl few ↦ subst P (sym (cond-true (nat_le count 22) [] more few)) tt
        | inr many ↦ subst P (sym (cond-false (nat_le count 22) [] more many)) (good-words-at top 22 (more_text (count - 22)) most (omega arith))
      ])
    ]

good-heading : (top : ℕ) → top ≤ 40000 → AllByRecursion (Good (list_from top)) (heading_marks top)
good-heading top most =
    (good-words (list_from top) 8800 (top + 350) 260 anchors.Start weights.Bold (codes "what the crews heard") [] (omega arith) (small top most) (place top 8800 (top + 350) (omega arith) (omega arith) (omega arith) (omega arith)), tt)

pub are-in-list : (top : ℕ) (e : Parts) (journal : List Entry) (labels : LabelWords) → top ≤ 40000 → AreInList top e journal labels
unfolding heard_marks
are-in-list top e journal labels most =
    let P = Good (list_from top) in
    let all = call_lines e journal in
    let shown = lines top e labels 0 (take 22 all) in
    let rest = rest_marks top (length all) in
    all-append P (heading_marks top) (shown ++ rest) (good-heading top most)
    (all-append P shown rest (good-lines top e labels 0 22 all most (omega arith)) (good-rest top (length all) most))
