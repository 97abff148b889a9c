-- The beginnings of a journal that is read in order.
use Rattle.std.proofs.Common.{◌≡◌, ℕ, ◌+◌, ◌<◌, ◌≤◌, List, [], ◌∷◌, length, reverse, slice_get, take, get_or, Some, None, sym, ap, ◌∙◌, subst, arith, add-one, inl, inr}
use Rattle.std.specs.Prelude.{All}
use Rattle.std.proofs.lemmas.Bool.{cases_lt}
use Rattle.std.proofs.lemmas.List.{length-reverse, reverse-append, reverse-reverse, take-append-le, take_all}
use Rattle.std.proofs.lemmas.List.Elements.{All-head, All-tail}
use Rattle.std.proofs.lemmas.Option.{get_or_from_slice_get, slice_get-get_or, slice_get_within}
use Rattle.std.proofs.Math.Seq.{take-suc}
use Rattle.acas_base.specs.Encounter.{IsEncounter, Parts}
use Rattle.acas_base.specs.declared.entry.Entry.{Entry}
use Rattle.air_journal.proofs.WellFormed.{entries-fit}
use Rattle.air_journal.specs.Airs.{air_of}
use Rattle.air_journal.specs.Ranges.{IsEntry}
use Rattle.air_rules.proofs.Legal.{legal-begins}
use Rattle.air_rules.specs.Journal.{Begins, more, whole}
use Rattle.air_rules.specs.Rules.{IsLegal}
use Rattle.run_losses.specs.Counted.{read_of}

-- At the end there is no entry.
read-past : (journal : List Entry) (at : ℕ) → slice_get (reverse journal) at ≡ None → length journal ≤ at
read-past journal at none = elim (cases_lt at (length journal)) [
  | inl within ↦ absurd (past (reverse journal) none (let n = length-reverse journal in omega arith))
  | inr past ↦ past
]
  where
    past : (entries : List Entry) → slice_get entries at ≡ None → at < length entries → ⊥
    past [] none within = omega arith
    past (entry ∷ entries) none within = let some = slice_get-get_or (entry ∷ entries) at entry within in cc

pub read-all : (journal : List Entry) (at : ℕ) → length journal ≤ at → read_of journal at ≡ journal
read-all journal at past = ap reverse (take_all at (reverse journal) (let n = length-reverse journal in omega arith)) ∙ reverse-reverse journal

-- Past the end nothing more is read.
pub read-on : (journal : List Entry) (at : ℕ) → slice_get (reverse journal) at ≡ None → read_of journal (at + 1) ≡ read_of journal at
read-on journal at none = (let past : length journal ≤ at = read-past journal at none in read-all journal (at + 1) (omega arith) ∙ sym (read-all journal at past))

-- One entry more.
pub read-more : (journal : List Entry) (at : ℕ) (entry : Entry) → slice_get (reverse journal) at ≡ Some entry → read_of journal (at + 1) ≡ entry ∷ read_of journal at
read-more journal at entry is =
    let here : get_or (reverse journal) at entry ≡ entry = get_or_from_slice_get (reverse journal) at entry entry is in
    ap (read_of journal) (add-one at) ∙ ap reverse (take-suc (reverse journal) at entry (slice_get_within (reverse journal) at entry is))
    ∙ reverse-append (take at (reverse journal)) (get_or (reverse journal) at entry ∷ []) ∙ ap (λ (e : Entry). e ∷ read_of journal at) here

read-begins : (journal : List Entry) (at : ℕ) → at ≤ length journal → Begins (read_of journal at) journal
read-begins [] at within = subst (λ (k : List Entry). Begins k []) (sym (read-all [] at (omega arith))) whole
read-begins (entry ∷ journal) at within = elim (cases_lt at (length journal + 1)) [
  | inl less ↦
      let same : read_of (entry ∷ journal) at ≡ read_of journal at =
      ap (λ (xs : List Entry). reverse (take at xs)) (reverse-append (entry ∷ []) journal) ∙ ap reverse (take-append-le at (reverse journal) (entry ∷ []) (let n = length-reverse journal in omega arith)) in
      subst (λ (k : List Entry). Begins k (entry ∷ journal)) (sym same) (more (read-begins journal at (omega arith)))
  | inr past ↦ subst (λ (k : List Entry). Begins k (entry ∷ journal)) (sym (read-all (entry ∷ journal) at (omega arith))) whole
]

holds-next : (P : Entry → Type 0) (entry : Entry) (K J : List Entry) → Begins (entry ∷ K) J → All P J → P entry
holds-next P entry K J whole all = All-head P entry K all
holds-next P entry K J (more {entry = x} {journal = L} b) all = holds-next P entry K L b (All-tail P x L all)

-- The entry that comes next: it is legal, and its parts are in their ranges.
pub record Follows (e : Parts) (journal : List Entry) (at : ℕ) (entry : Entry) : Type 0 where
  pub grows : read_of journal (at + 1) ≡ entry ∷ read_of journal at
  pub legal : IsLegal (air_of e) (entry ∷ read_of journal at)
  pub fits : IsEntry (length e.crafts) entry

pub follows : (e : Parts) (journal : List Entry) (at : ℕ) (entry : Entry) → IsEncounter e → IsLegal (air_of e) journal → slice_get (reverse journal) at ≡ Some entry → Follows e journal at entry
follows e journal at entry is legal here =
    let within : at < length journal = (let h = slice_get_within (reverse journal) at entry here in let n = length-reverse journal in omega arith) in
    let grows = read-more journal at entry here in
    let begins : Begins (entry ∷ read_of journal at) journal = subst (λ (k : List Entry). Begins k journal) grows (read-begins journal (at + 1) (omega arith)) in
    record { grows = grows; legal = legal-begins (air_of e) begins legal; fits = holds-next (IsEntry (length e.crafts)) entry (read_of journal at) journal begins (entries-fit e journal is legal) }
