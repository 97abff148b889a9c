-- The tables of a journal's messages.
use Rattle.std.proofs.Common.{◌≡◌, ℕ, ◌+◌, ◌*◌, ◌/◌, ◌%◌, ◌<◌, ◌≤◌, Bool, true, false, eqb, List, [], ◌∷◌, length, length-set, set, get_or, refl, sym, ap, ◌∙◌, arith, subst, inl, inr, ◌⊎◌, Option, Some, None, eq-eqb, ne_eqb}
use Rattle.std.specs.Prelude.{◌&&◌, option_and_then, replicate, reverse, slice_get}
use Rattle.std.proofs.lemmas.Bool.{cases_eq, cond-false, cond-true}
use Rattle.std.proofs.lemmas.List.{get_or-replicate, get_or-set_other, get_or-set_same, length-replicate}
use Rattle.acas_base.specs.Ranges.{IsCycle}
use Rattle.acas_base.specs.declared.TheConstants.{CRAFTS}
use Rattle.acas_base.specs.declared.advisory.Cells.{Cells}
use Rattle.acas_base.specs.declared.entry.Entry.{Entry}
use Rattle.acas_base.specs.declared.entry.Entry.TheVariants.{Commit, Send, Take}
use Rattle.acas_base.specs.Encounter.{IsEncounter, Parts}
use Rattle.air_journal.proofs.Places.{sent-at-index}
use Rattle.air_journal.proofs.WellFormed.{entries-fit}
use Rattle.air_journal.specs.Airs.{air_of}
use Rattle.air_journal.specs.Ranges.{IsEntry}
use Rattle.air_rules.specs.Journal.{Sent, as_sent, sent_at}
use Rattle.air_rules.specs.Rules.{IsLegal}
use Rattle.rec_text.proofs.Putting.{in-order}
use Rattle.comparison.specs.Messages.{AreTables, IsSentFit, IsSlotFound, IsSlotOf, copy_slot, is_message, message_slot, result_by, word_in}

-- ---- places

-- The parts of a message in their ranges.
abbrev pub IsMessage : ℕ → ℕ → ℕ → Type 0
IsMessage sender receiver number = (sender < CRAFTS) × (receiver < CRAFTS) × IsCycle number

pub slot-small : (sender receiver number : ℕ) → sender < CRAFTS → receiver < CRAFTS → IsCycle number → message_slot sender receiver number < 153600
slot-small sender receiver number s r n = (let low = n.0 in let high = n.1 in omega arith)

-- One place is that of one message.
pub slot-same : (a b m c d n : ℕ) → a < CRAFTS → b < CRAFTS → IsCycle m → c < CRAFTS → d < CRAFTS → IsCycle n → message_slot a b m ≡ message_slot c d n → (a ≡ c) × (b ≡ d) × (m ≡ n)
slot-same a b m c d n ha hb hm hc hd hn e =
    let m0 = hm.0 in
    let m1 = hm.1 in
    let n0 = hn.0 in
    let n1 = hn.1 in
    let pair : a * 16 + b ≡ c * 16 + d = omega arith in
    (omega arith, omega arith, omega arith)

-- Each place is that of a message.
pub record IsSlotted (slot : ℕ) : Type 0 where
  pub sender : ℕ
  pub receiver : ℕ
  pub number : ℕ
  pub sender_in : sender < CRAFTS
  pub receiver_in : receiver < CRAFTS
  pub number_in : IsCycle number
  pub is : slot ≡ message_slot sender receiver number

pub slotted : (slot : ℕ) → slot < 153600 → IsSlotted slot
slotted slot h =
    let pair = slot / 600 in
    record {
      sender = pair / 16;
      receiver = pair % 16;
      number = slot % 600 + 1;
      sender_in = omega arith;
      receiver_in = omega arith;
      number_in = (omega arith, omega arith);
      is = omega arith;
    }

-- ---- nothing is noted yet

pub tables-none : (at : ℕ → Option Sent) → AreTables at [] (replicate 153600 None) (replicate 460800 None)
tables-none at = record {
  messages = length-replicate {A = Option ℕ} 153600 None;
  copies = length-replicate {A = Option Bool} 460800 None;
  word = λ s r n hs hr hn. get_or-replicate 153600 (message_slot s r n) None None (slot-small s r n hs hr hn);
  result = λ s r n c hs hr hn hc. get_or-replicate 460800 (copy_slot (message_slot s r n) c) None None (let small = slot-small s r n hs hr hn in omega arith);
}

-- ---- an entry is noted

pub commit-noted : (at : ℕ → Option Sent) (K : List Entry) (words : List (Option ℕ)) (results : List (Option Bool)) (own cycle : ℕ) (cells : Cells) → AreTables at K words results → AreTables at (Commit own cycle cells ∷ K) words results
commit-noted at K words results own cycle cells t = record { messages = t.messages; copies = t.copies; word = t.word; result = t.result }

-- Three tests.
three-true : (a b c : Bool) → a ≡ true → b ≡ true → c ≡ true → (a && (b && c)) ≡ true
three-true a b c p q r = ap (λ (x : Bool). x && (b && c)) p ∙ ap (λ (x : Bool). x && c) q ∙ r

first-false : (a b : Bool) → a ≡ false → (a && b) ≡ false
first-false a b p = ap (λ (x : Bool). x && b) p

second-false : (a b : Bool) → b ≡ false → (a && b) ≡ false
second-false true b p = p
second-false false b p = refl

-- The three numbers are the same, or the test says that they aren't.
matches : (a b m c d n : ℕ) → ((a ≡ c) × (b ≡ d) × (m ≡ n) × ((eqb a c && (eqb b d && eqb m n)) ≡ true)) ⊎ (((eqb a c && (eqb b d && eqb m n)) ≡ false) × ((a ≡ c) × (b ≡ d) × (m ≡ n) → ⊥))
matches a b m c d n = elim (cases_eq a c) [
  | inr ne ↦ inr (first-false (eqb a c) _ (ne_eqb a c ne), λ h. ne h.0)
  | inl p ↦ elim (cases_eq b d) [
    | inr ne ↦ inr (second-false (eqb a c) _ (first-false (eqb b d) _ (ne_eqb b d ne)), λ h. ne h.1)
    | inl q ↦ elim (cases_eq m n) [
      | inr ne ↦ inr (second-false (eqb a c) _ (second-false (eqb b d) _ (ne_eqb m n ne)), λ h. ne h.2)
      | inl r ↦ inl (p, q, r, three-true (eqb a c) (eqb b d) (eqb m n) (eq-eqb a c p) (eq-eqb b d q) (eq-eqb m n r))
    ]
  ]
]

pub send-noted : (at : ℕ → Option Sent) (K : List Entry) (words : List (Option ℕ)) (results : List (Option Bool)) (own target number word slot : ℕ) → own < CRAFTS → target < CRAFTS → IsCycle number →
    slot ≡ message_slot own target number → AreTables at K words results → AreTables at (Send own target number word ∷ K) (set words slot (Some word)) results
send-noted at K words results own target number word slot ho ht hn is t = record {
  messages = length-set words slot (Some word) ∙ t.messages;
  copies = t.copies;
  word = λ s r n hs hr hm. elim (matches own target number s r n) [
    | inl same ↦
        let here : message_slot s r n ≡ slot = (let a = same.0 in let b = same.1 in let c = same.2 in sym (is ∙ ap (λ (x : ℕ). message_slot x target number) a ∙ ap (λ (x : ℕ). message_slot s x number) b ∙ ap (λ (x : ℕ). message_slot s r x) c)) in
        ap (λ (k : ℕ). get_or (set words slot (Some word)) k None) here ∙ get_or-set_same words slot (Some word) None (let small = slot-small own target number ho ht hn in let size = t.messages in omega arith)
        ∙ sym (cond-true (eqb own s && (eqb target r && eqb number n)) (Some word) (word_in K s r n) same.3)
    | inr apart ↦
        get_or-set_other words slot (message_slot s r n) (Some word) None (λ e. apart.1 (slot-same own target number s r n ho ht hn hs hr hm (sym is ∙ sym e)))
        ∙ t.word s r n hs hr hm ∙ sym (cond-false (eqb own s && (eqb target r && eqb number n)) (Some word) (word_in K s r n) apart.0)
  ];
  result = t.result;
}

-- A take of a copy of no message.
pub take-of-none : (at : ℕ → Option Sent) (K : List Entry) (words : List (Option ℕ)) (results : List (Option Bool)) (own send copy : ℕ) (good : Bool) → at send ≡ None → AreTables at K words results → AreTables at (Take own send copy good ∷ K) words results
take-of-none at K words results own send copy good none t = record {
  messages = t.messages;
  copies = t.copies;
  word = t.word;
  result = λ s r n c hs hr hn hc. t.result s r n c hs hr hn hc
      ∙ sym (cond-false (eqb copy c && is_message (at send) s r n) (Some good) (result_by at K s r n c) (second-false (eqb copy c) _ (ap (λ (o : Option Sent). is_message o s r n) none)));
}

pub take-noted : (at : ℕ → Option Sent) (K : List Entry) (words : List (Option ℕ)) (results : List (Option Bool)) (own send copy slot place : ℕ) (good : Bool) → copy ≤ 2 → place ≡ copy_slot slot copy → IsSlotOf (at send) slot →
    AreTables at K words results → AreTables at (Take own send copy good ∷ K) words (set results place (Some good))
take-noted at K words results own send copy slot place good hc is f t = record {
  messages = t.messages;
  copies = length-set results place (Some good) ∙ t.copies;
  word = t.word;
  result = λ s r n c hs hr hn hk. elim (cases_eq copy c) [
    | inr ne ↦
        get_or-set_other results place (copy_slot (message_slot s r n) c) (Some good) None (λ e. ne (omega (arith, is, e)))
        ∙ t.result s r n c hs hr hn hk ∙ sym (cond-false (eqb copy c && is_message (at send) s r n) (Some good) (result_by at K s r n c) (first-false (eqb copy c) _ (ne_eqb copy c ne)))
    | inl p ↦ elim (matches f.sent.sender f.sent.receiver f.sent.number s r n) [
      | inl same ↦
          let there : message_slot s r n ≡ slot =
          sym (f.slot_is ∙ ap (λ (x : ℕ). message_slot x f.sent.receiver f.sent.number) same.0 ∙ ap (λ (x : ℕ). message_slot s x f.sent.number) same.1 ∙ ap (λ (x : ℕ). message_slot s r x) same.2) in
          let here : copy_slot (message_slot s r n) c ≡ place = (let a = is in omega (arith, there, p)) in
          ap (λ (k : ℕ). get_or (set results place (Some good)) k None) here ∙ get_or-set_same results place (Some good) None (place-small place is)
          ∙ sym (cond-true (eqb copy c && is_message (at send) s r n) (Some good) (result_by at K s r n c) (both (eqb copy c) _ (eq-eqb copy c p) (ap (λ (o : Option Sent). is_message o s r n) f.is ∙ same.3)))
      | inr apart ↦
          get_or-set_other results place (copy_slot (message_slot s r n) c) (Some good) None
          (λ e. apart.1 (slot-same f.sent.sender f.sent.receiver f.sent.number s r n f.sender f.receiver f.number hs hr hn (sym f.slot_is ∙ (omega (arith, is, e, p)))))
          ∙ t.result s r n c hs hr hn hk
          ∙ sym (cond-false (eqb copy c && is_message (at send) s r n) (Some good) (result_by at K s r n c) (second-false (eqb copy c) _ (ap (λ (o : Option Sent). is_message o s r n) f.is ∙ apart.0)))
    ]
  ];
}
  where
    both : (a b : Bool) → a ≡ true → b ≡ true → (a && b) ≡ true
    both a b p q = ap (λ (x : Bool). x && b) p ∙ q

    place-small : (k : ℕ) → k ≡ copy_slot slot copy → k < length results
    place-small k e = (let small = slot-small f.sent.sender f.sent.receiver f.sent.number f.sender f.receiver f.number in let size = t.copies in let s = f.slot_is in omega arith)

-- ---- what was sent

pub sent-fits : (count : ℕ) (entry : Entry) → count ≤ CRAFTS → IsEntry count entry → IsSentFit entry
sent-fits count (Commit own cycle cells) few h = tt
sent-fits count (Send own target number word) few h = (let a = h.0 in omega arith, let b = h.1 in omega arith, h.2)
sent-fits count (Take own send copy good) few h = tt

-- The entry at a position of a journal, with its parts in their ranges.
pub entry-fits : (e : Parts) (J : List Entry) (at : ℕ) (entry : Entry) → IsEncounter e → IsLegal (air_of e) J → slice_get (reverse J) at ≡ Some entry → IsEntry (length e.crafts) entry
entry-fits e J at entry valid legal is = in-order (IsEntry (length e.crafts)) J at entry (entries-fit e J valid legal) is

pub sent-found : (J : List Entry) (at : ℕ) (entry : Entry) (slot : Option ℕ) → slice_get (reverse J) at ≡ Some entry → IsSlotFound (as_sent entry) slot → IsSlotFound (sent_at J at) slot
sent-found J at entry slot is h = subst (λ (o : Option Sent). IsSlotFound o slot) (sym (sent-at-index J at ∙ ap (option_and_then as_sent) is)) h

pub none-sent : (J : List Entry) (at : ℕ) → slice_get (reverse J) at ≡ None → sent_at J at ≡ None
none-sent J at is = sent-at-index J at ∙ ap (option_and_then as_sent) is

pub slot-of-small : (found : Option Sent) (slot : ℕ) → IsSlotOf found slot → slot < 153600
slot-of-small found slot f = (let small = slot-small f.sent.sender f.sent.receiver f.sent.number f.sender f.receiver f.number in let is = f.slot_is in omega arith)
