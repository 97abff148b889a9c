-- The reason of a commit against another aircraft, from its parts.
use Rattle.std.proofs.Common.{◌≡◌, ◌≢◌, ◌+◌, ◌-◌, ◌<◌, ◌≤◌, ◌∙◌, ℕ, zero, suc, List, [], ◌∷◌, ◌++◌, length, Option, add-one, arith, eq-eqb, inl, inr, length-append, ne_eqb, refl, sym, ap}
use Rattle.std.specs.Prelude.{Bool, if◌then◌else◌, map}
use Rattle.std.specs.List.{flat_map, range_with_len}
use Rattle.std.proofs.lemmas.Bool.{cases_eq}
use Rattle.std.proofs.lemmas.List.{append-nil, map-append}
use Rattle.acas_base.specs.Encounter.{Parts}
use Rattle.acas_base.specs.declared.advisory.Cell.{Cell}
use Rattle.acas_base.specs.declared.advisory.Cells.{Cells}
use Rattle.acas_base.specs.declared.advisory.Vrc.{Vrc}
use Rattle.acas_base.specs.declared.entry.Entry.{Entry}
use Rattle.acas_base.specs.declared.setting.Profile.{Profile}
use Rattle.acas_lines.proofs.Ranges.{flat-more}
use Rattle.air_journal.specs.Airs.{address_of, air_of}
use Rattle.air_rules.specs.Journal.{cell_at, last_cell}
use Rattle.air_rules.specs.Takes.{complement_from}
use Rattle.craft_view.specs.Sight.{sight_of}
use Rattle.reasons.specs.Columns.{reason_line}
use Rattle.reasons.specs.Reasons.{commit_reasons, pair_reasons, reason_of, told_of}
use Rattle.reasons.specs.Rules.{rule_of}
use Rattle.reasons.specs.Seen.{seen_of}
use Rattle.reasons.specs.Shown.{continued_after, shown_of}
use Rattle.reasons.specs.declared.reason.Reason.{Reason}
use Rattle.reasons.specs.declared.rules.Rule.{Rule}
use Rattle.reasons.specs.declared.seen.Seen.{Seen}
use Rattle.reasons.specs.declared.shown.Continued.{Continued}
use Rattle.reasons.specs.declared.shown.Shown.{Shown}
use Rattle.reasons.specs.declared.told.Told.{Told}

pub reason-is : (e : Parts) (journal : List Entry) (own cycle other : ℕ) (cells : Cells) (seen : Seen) (position a b : ℕ) (shown : Shown) (continued : Option Continued) (told : Option Told) (before cell : Cell) (rule : Rule) (complement : Vrc)
    → seen ≡ seen_of (sight_of e own cycle) other → position ≡ length journal → a ≡ address_of e own → b ≡ address_of e other → shown ≡ shown_of seen → continued ≡ continued_after seen.view before
    → told ≡ told_of (air_of e) journal own other → before ≡ last_cell journal own other → cell ≡ cell_at cells other → rule ≡ rule_of before seen.view complement seen.rank → complement ≡ complement_from (air_of e) journal own other
    → (let it : Reason = record { position = position; cycle = cycle; own = a; other = b; seen = shown; continued = continued; told = told; before = before; cell = cell; rule = rule } in it) ≡ reason_of e journal own cycle cells other
unfolding reason_of
reason-is e journal own cycle other cells seen position a b shown continued told before cell rule complement s p own-is other-is h g t f d r m =
    let shown-is = h ∙ ap shown_of s in
    let continued-is = g ∙ (λ i. continued_after (s i).view (f i)) in
    let rule-is = r ∙ (λ i. rule_of (f i) (s i).view (m i) (s i).rank) in
    λ i. record { position = p i; cycle = cycle; own = own-is i; other = other-is i; seen = shown-is i; continued = continued-is i; told = t i; before = f i; cell = d i; rule = rule-is i }

-- ---- the lines of a commit

from-zero : {X : Type 0} (f : ℕ → List X) (n : ℕ) → flat_map f (range_with_len 0 (suc n)) ≡ flat_map f (range_with_len 0 n) ++ f n
from-zero f n = let here : 0 + n ≡ n = omega arith in ap (λ k. flat_map f (range_with_len 0 k)) (sym (add-one n)) ∙ flat-more f 0 n ∙ ap (λ k. flat_map f (range_with_len 0 n) ++ f k) here

more-lines : (p : Profile) (f : ℕ → List Reason) (n : ℕ) → map (reason_line p) (flat_map f (range_with_len 0 (n + 1))) ≡ map (reason_line p) (flat_map f (range_with_len 0 n)) ++ map (reason_line p) (f n)
more-lines p f n =
    ap (map (reason_line p)) (ap (λ (k : ℕ). flat_map f (range_with_len 0 k)) (add-one n) ∙ from-zero f n) ∙ map-append (reason_line p) (flat_map f (range_with_len 0 n)) (f n)

-- Nothing is put against own aircraft.
pub none-more : (p : Profile) (f : ℕ → List Reason) (n : ℕ) → f n ≡ [] → map (reason_line p) (flat_map f (range_with_len 0 n)) ≡ map (reason_line p) (flat_map f (range_with_len 0 (n + 1)))
none-more p f n is = sym (more-lines p f n ∙ ap (λ reasons. map (reason_line p) (flat_map f (range_with_len 0 n)) ++ map (reason_line p) reasons) is ∙ append-nil _)

-- One line is put against another one.
pub one-more : (p : Profile) (f : ℕ → List Reason) (n : ℕ) (reason : Reason) → f n ≡ reason ∷ [] → map (reason_line p) (flat_map f (range_with_len 0 n)) ++ reason_line p reason ∷ [] ≡ map (reason_line p) (flat_map f (range_with_len 0 (n + 1)))
one-more p f n reason is = sym (more-lines p f n ∙ ap (λ reasons. map (reason_line p) (flat_map f (range_with_len 0 n)) ++ map (reason_line p) reasons) is)

-- By whether it is own aircraft.
pub own-rows : (e : Parts) (journal : List Entry) (own cycle : ℕ) (cells : Cells) (other : ℕ) → other ≡ own → pair_reasons e journal own cycle cells other ≡ []
own-rows e journal own cycle cells other same = ap (λ (b : Bool). if b then [] else reason_of e journal own cycle cells other ∷ []) (eq-eqb other own same)

pub other-rows : (e : Parts) (journal : List Entry) (own cycle : ℕ) (cells : Cells) (other : ℕ) → other ≢ own → pair_reasons e journal own cycle cells other ≡ reason_of e journal own cycle cells other ∷ []
other-rows e journal own cycle cells other apart = ap (λ (b : Bool). if b then [] else reason_of e journal own cycle cells other ∷ []) (ne_eqb other own apart)

-- ---- how many lines a commit has

below : (e : Parts) (journal : List Entry) (own cycle : ℕ) (cells : Cells) (n : ℕ) → n ≤ own → length (flat_map (pair_reasons e journal own cycle cells) (range_with_len 0 n)) ≡ n
below e journal own cycle cells zero h = refl
below e journal own cycle cells (suc n) h =
    let f = pair_reasons e journal own cycle cells in
    let before = below e journal own cycle cells n (omega arith) in
    let one = ap length (other-rows e journal own cycle cells n (λ same. omega arith)) in
    let all = ap length (from-zero f n) ∙ length-append (flat_map f (range_with_len 0 n)) (f n) in
    omega arith

past : (e : Parts) (journal : List Entry) (own cycle : ℕ) (cells : Cells) (n : ℕ) → own < n → length (flat_map (pair_reasons e journal own cycle cells) (range_with_len 0 n)) + 1 ≡ n
past e journal own cycle cells zero h = absurd (omega arith)
past e journal own cycle cells (suc n) h = elim (cases_eq n own) [
  | inl same ↦ (
      let before = below e journal own cycle cells n (omega arith) in
      let none = ap length (own-rows e journal own cycle cells n same) in
      let all = ap length (from-zero (pair_reasons e journal own cycle cells) n) ∙ length-append (flat_map (pair_reasons e journal own cycle cells) (range_with_len 0 n)) (pair_reasons e journal own cycle cells n) in
      omega arith)
  | inr apart ↦ (
      let before = past e journal own cycle cells n (omega arith) in
      let one = ap length (other-rows e journal own cycle cells n apart) in
      let all = ap length (from-zero (pair_reasons e journal own cycle cells) n) ∙ length-append (flat_map (pair_reasons e journal own cycle cells) (range_with_len 0 n)) (pair_reasons e journal own cycle cells n) in
      omega arith)
]

-- One for each other aircraft.
pub count-rows : (e : Parts) (journal : List Entry) (own cycle : ℕ) (cells : Cells) → own < length e.crafts → length (commit_reasons e journal own cycle cells) ≡ length e.crafts - 1
count-rows e journal own cycle cells h = let all = past e journal own cycle cells (length e.crafts) h in omega arith
