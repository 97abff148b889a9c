-- Messages that are counted.
use Rattle.std.proofs.Common.{◌≡◌, ℕ, ◌+◌, ◌*◌, ◌<◌, ◌≤◌, Bool, false, eqb, List, [], ◌∷◌, length, length-set, set, get_or, replicate, refl, sym, ap, ◌∙◌, subst, arith, inl, inr, Some, None, eq-eqb, ne_eqb}
use Rattle.std.specs.Prelude.{◌&&◌, reverse, slice_get}
use Rattle.std.proofs.lemmas.Bool.{and_from, and_left, and_right, cases_eq}
use Rattle.std.proofs.lemmas.List.{get_or-replicate, get_or-set_other, get_or-set_same, length-replicate}
use Rattle.acas_base.specs.Encounter.{IsEncounter, Parts}
use Rattle.acas_base.specs.declared.TheConstants.{CRAFTS}
use Rattle.acas_base.specs.declared.advisory.Cells.{Cells}
use Rattle.acas_base.specs.declared.entry.Entry.{Entry}
use Rattle.acas_base.specs.declared.entry.Entry.TheVariants.{Commit, Send, Take}
use Rattle.air_journal.proofs.Bounds.{few-commits, few-crafts}
use Rattle.air_journal.specs.Airs.{air_of}
use Rattle.air_rules.proofs.FewSends.{sends-few}
use Rattle.air_rules.proofs.Legal.{allowed}
use Rattle.air_rules.proofs.Pace.{count-no, count-yes}
use Rattle.air_rules.specs.Journal.{is_send_of, sends}
use Rattle.air_rules.specs.Rules.{IsLegal}
use Rattle.run_losses.proofs.Reading.{follows, read-all, read-more, read-on}
use Rattle.run_losses.specs.Counted.{AreSent, read_of}

abbrev nothing : ℕ
nothing = 0

-- Nothing is counted yet.
pub sent-none : AreSent [] (replicate 256 nothing)
sent-none = record {
  size = length-replicate 256 nothing;
  each = λ s r hs hr. get_or-replicate 256 (s * 16 + r) nothing nothing (omega arith);
}

-- A message more: its number is how many were sent.
send-noted : (K : List Entry) (sent : List ℕ) (own target number word place : ℕ) → own < CRAFTS → target < CRAFTS → place ≡ own * CRAFTS + target → number ≡ sends K own target + 1 → AreSent K sent →
    AreSent (Send own target number word ∷ K) (set sent place number)
send-noted K sent own target number word place ho ht is next t = record {
  size = length-set sent place number ∙ t.size;
  each = λ s r hs hr. elim (cases_eq own s) [
    | inr ne ↦ other s r hs hr (and_left (eqb own s) _ (ne_eqb own s ne)) (λ e. ne (omega arith))
    | inl p ↦ elim (cases_eq target r) [
      | inr ne ↦ other s r hs hr (and_right (eqb own s) _ (ne_eqb target r ne)) (λ e. ne (omega arith))
      | inl q ↦
          (let here : s * 16 + r ≡ place = omega arith in
          let same : sends K own target ≡ sends K s r = (λ j. sends K (p j) (q j)) in
          ap (λ (k : ℕ). get_or (set sent place number) k 0) here ∙ get_or-set_same sent place number 0 (let size = t.size in omega arith)
          ∙ next ∙ ap (λ (k : ℕ). k + 1) same
          ∙ sym (count-yes (is_send_of s r) (Send own target number word) K (and_from (eqb own s) _ (eq-eqb own s p) (eq-eqb target r q))))
    ]
  ];
}
  where
    other : (s r : ℕ) → s < CRAFTS → r < CRAFTS → (eqb own s && eqb target r) ≡ false → (place ≡ s * 16 + r → ⊥) → get_or (set sent place number) (s * 16 + r) 0 ≡ sends (Send own target number word ∷ K) s r
    other s r hs hr differ apart =
        get_or-set_other sent place (s * 16 + r) number 0 (λ e. apart (sym e)) ∙ t.each s r hs hr ∙ sym (count-no (is_send_of s r) (Send own target number word) K differ)

-- ---- one entry more of a journal

module _ (e : Parts) (J : List Entry) (at : ℕ) (sent : List ℕ) (valid : IsEncounter e) (legal : IsLegal (air_of e) J) (t : AreSent (read_of J at) sent) where
  pub commit-noted : (own cycle : ℕ) (cells : Cells) → slice_get (reverse J) at ≡ Some (Commit own cycle cells) → AreSent (read_of J (at + 1)) sent
  commit-noted own cycle cells is =
      let x = Commit own cycle cells in
      let s : AreSent (x ∷ read_of J at) sent = record { size = t.size; each = t.each } in
      subst (λ (L : List Entry). AreSent L sent) (sym (read-more J at x is)) s

  pub take-noted : (own send copy : ℕ) (good : Bool) → slice_get (reverse J) at ≡ Some (Take own send copy good) → AreSent (read_of J (at + 1)) sent
  take-noted own send copy good is =
      let x = Take own send copy good in
      let s : AreSent (x ∷ read_of J at) sent = record { size = t.size; each = t.each } in
      subst (λ (L : List Entry). AreSent L sent) (sym (read-more J at x is)) s

  pub sent-noted : (own target number word : ℕ) → slice_get (reverse J) at ≡ Some (Send own target number word) → AreSent (read_of J (at + 1)) (set sent (own * CRAFTS + target) number)
  sent-noted own target number word is =
      let x = Send own target number word in
      let f = follows e J at x valid legal is in
      let few : length e.crafts ≤ CRAFTS = few-crafts e valid in
      let s = send-noted (read_of J at) sent own target number word (own * CRAFTS + target) (let a = f.fits.0 in omega arith) (let a = f.fits.1 in omega arith) refl (allowed f.legal).number_is t in
      subst (λ (L : List Entry). AreSent L (set sent (own * CRAFTS + target) number)) (sym f.grows) s

-- The aircraft of a message have places.
pub places-in : (e : Parts) (J : List Entry) (at own target number word : ℕ) → IsEncounter e → IsLegal (air_of e) J → slice_get (reverse J) at ≡ Some (Send own target number word) → (own < CRAFTS) × (target < CRAFTS)
places-in e J at own target number word valid legal is =
    let f = (follows e J at (Send own target number word) valid legal is).fits in
    let few : length e.crafts ≤ CRAFTS = few-crafts e valid in
    ((let a = f.0 in omega arith), (let a = f.1 in omega arith))

-- Past the end nothing is counted.
pub past-noted : (J : List Entry) (at : ℕ) (sent : List ℕ) → slice_get (reverse J) at ≡ None → AreSent (read_of J at) sent → AreSent (read_of J (at + 1)) sent
past-noted J at sent none t = subst (λ (L : List Entry). AreSent L sent) (sym (read-on J at none)) t

-- At the end all is counted.
pub all-noted : (J : List Entry) (at : ℕ) (sent : List ℕ) → length J ≤ at → AreSent (read_of J at) sent → AreSent J sent
all-noted J at sent past t = subst (λ (L : List Entry). AreSent L sent) (read-all J at past) t

-- No more messages are sent than there are cycles.
pub sends-few-by : (e : Parts) (J : List Entry) → IsEncounter e → IsLegal (air_of e) J → (sender receiver : ℕ) → sends J sender receiver ≤ 600
sends-few-by e J valid legal sender receiver = (let a = sends-few (air_of e) J legal sender receiver in let b = few-commits e J valid legal sender in omega arith)
