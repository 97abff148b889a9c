-- The tables of the messages of a journal.
use Rattle.std.proofs.Common.{◌≡◌, ℕ, ◌+◌, ◌*◌, ◌<◌, ◌≤◌, Bool, true, false, eqb, List, [], ◌∷◌, length, length-set, set, get_or, replicate, refl, sym, ap, ◌∙◌, subst, arith, inl, inr, ◌⊎◌, Option, Some, None, eq-eqb, ne_eqb}
use Rattle.std.specs.Prelude.{◌&&◌, ◌||◌, option_and_then, reverse, slice_get}
use Rattle.std.proofs.lemmas.Bool.{cases_eq, cond-false, cond-true, and_from, and_left, and_right}
use Rattle.std.proofs.lemmas.List.{get_or-replicate, get_or-set_other, get_or-set_same, length-replicate}
use Rattle.acas_base.specs.Encounter.{IsEncounter, Parts}
use Rattle.acas_base.specs.Ranges.{IsCycle}
use Rattle.acas_base.specs.declared.TheConstants.{CRAFTS}
use Rattle.acas_base.specs.declared.advisory.Cells.{Cells}
use Rattle.acas_base.specs.declared.entry.Entry.{Entry}
use Rattle.acas_base.specs.declared.entry.Entry.TheVariants.{Commit, Send, Take}
use Rattle.air_journal.proofs.Bounds.{few-commits, few-crafts}
use Rattle.air_journal.proofs.Places.{sent-at-index}
use Rattle.air_journal.specs.Airs.{air_of}
use Rattle.air_journal.specs.Ranges.{IsEntry}
use Rattle.air_rules.proofs.FewSends.{sends-few}
use Rattle.air_rules.proofs.Legal.{allowed}
use Rattle.air_rules.proofs.Pace.{count-no, count-yes}
use Rattle.air_rules.specs.Journal.{Sent, as_sent, is_send_of, sends, sent_at}
use Rattle.air_rules.specs.Rules.{IsLegal}
use Rattle.deliveries.proofs.Reading.{follows, read-all, read-more, read-past}
use Rattle.deliveries.specs.Mishaps.{is_message, was_sent}
use Rattle.deliveries.specs.Noted.{AreCopies, AreNotes, AreSent, AreTakes, IsSlotFound, IsSlotOf, copies_for, message_slot, no_copies, no_takes, read_of, takes_by, with_take}
use Rattle.deliveries.specs.declared.takes.Copies.{Copies}
use Rattle.deliveries.specs.declared.takes.Takes.{Takes}

-- ---- places

pub slot-small : (count sender receiver number : ℕ) → sender < count → receiver < CRAFTS → IsCycle number → message_slot sender receiver number < count * 9600
slot-small count sender receiver number s r n = (let low = n.0 in let high = n.1 in omega arith)

-- One place is that of one message.
slot-same : (a b m c d n : ℕ) → b < CRAFTS → IsCycle m → d < CRAFTS → IsCycle n → message_slot a b m ≡ message_slot c d n → (a ≡ c) × (b ≡ d) × (m ≡ n)
slot-same a b m c d n hb hm hd hn e =
    let m0 = hm.0 in
    let m1 = hm.1 in
    let n0 = hn.0 in
    let n1 = hn.1 in
    let pair : a * 16 + b ≡ c * 16 + d = omega arith in
    (omega arith, omega arith, omega arith)

-- The three numbers are the same, or the test says that they aren't.
pub matches : (a b m c d n : ℕ) → ((a ≡ c) × (b ≡ d) × (m ≡ n) × ((eqb a c && (eqb b d && eqb m n)) ≡ true)) ⊎ (((eqb a c && (eqb b d && eqb m n)) ≡ false) × ((a ≡ c) × (b ≡ d) × (m ≡ n) → ⊥))
matches a b m c d n = elim (cases_eq a c) [
  | inr ne ↦ inr (and_left (eqb a c) _ (ne_eqb a c ne), λ h. ne h.0)
  | inl p ↦ elim (cases_eq b d) [
    | inr ne ↦ inr (and_right (eqb a c) _ (and_left (eqb b d) _ (ne_eqb b d ne)), λ h. ne h.1)
    | inl q ↦ elim (cases_eq m n) [
      | inr ne ↦ inr (and_right (eqb a c) _ (and_right (eqb b d) _ (ne_eqb m n ne)), λ h. ne h.2)
      | inl r ↦ inl (p, q, r, and_from (eqb a c) _ (eq-eqb a c p) (and_from (eqb b d) _ (eq-eqb b d q) (eq-eqb m n r)))
    ]
  ]
]

-- ---- nothing is noted yet

takes-none : (count : ℕ) (at : ℕ → Option Sent) → AreTakes count at [] (replicate (count * 9600) no_takes)
takes-none count at = record {
  size = length-replicate (count * 9600) no_takes;
  each = λ s r n hs hr hn. get_or-replicate (count * 9600) (message_slot s r n) no_takes no_takes (slot-small count s r n hs hr hn);
}

abbrev nothing : ℕ
nothing = 0

sent-none : AreSent [] (replicate 256 nothing)
sent-none = record {
  size = length-replicate 256 nothing;
  each = λ s r hs hr. get_or-replicate 256 (s * 16 + r) nothing nothing (omega arith);
}

copies-none : (e : Parts) → AreCopies e [] (replicate (length e.crafts * 9600) no_copies)
copies-none e = record { size = length-replicate (length e.crafts * 9600) no_copies; each = λ s r n hs hr hn sent. absurd cc }

pub notes-none : (e : Parts) (J : List Entry) → AreNotes e J 0 (replicate (length e.crafts * 9600) no_copies) (replicate (length e.crafts * 9600) no_takes) (replicate 256 nothing)
notes-none e J = record { copies_are = copies-none e; takes_are = takes-none (length e.crafts) (sent_at J); sent_are = sent-none }

-- ---- an entry is noted

take-noted : (count : ℕ) (at : ℕ → Option Sent) (K : List Entry) (takes : List Takes) (own send copy slot : ℕ) (good : Bool) → count ≤ CRAFTS → IsSlotOf count (at send) slot → AreTakes count at K takes →
    AreTakes count at (Take own send copy good ∷ K) (set takes slot (with_take (get_or takes slot no_takes) copy good))
take-noted count at K takes own send copy slot good few f t =
    let new = with_take (get_or takes slot no_takes) copy good in
    let sender = f.sent.sender in
    let receiver = f.sent.receiver in
    let number = f.sent.number in
    let receiver_in : receiver < CRAFTS = (let r = f.receiver in omega arith) in
    let small : slot < length takes = (let place = slot-small count sender receiver number f.sender receiver_in f.number in let size = t.size in let is = f.slot_is in omega arith) in
    record {
      size = length-set takes slot new ∙ t.size;
      each = λ s r n hs hr hn. elim (matches sender receiver number s r n) [
        | inl same ↦
            (let here : message_slot s r n ≡ slot = (let a = same.0 in let b = same.1 in let d = same.2 in let is = f.slot_is in sym (is ∙ (λ j. message_slot (a j) (b j) (d j)))) in
            let old : get_or takes slot no_takes ≡ takes_by at K s r n = ap (λ (k : ℕ). get_or takes k no_takes) (sym here) ∙ t.each s r n hs hr hn in
            ap (λ (k : ℕ). get_or (set takes slot new) k no_takes) here ∙ get_or-set_same takes slot new no_takes small
            ∙ ap (λ (it : Takes). with_take it copy good) old
            ∙ sym (cond-true (is_message (at send) s r n) (with_take (takes_by at K s r n) copy good) (takes_by at K s r n) (ap (λ (o : Option Sent). is_message o s r n) f.is ∙ same.3)))
        | inr apart ↦
            get_or-set_other takes slot (message_slot s r n) new no_takes (λ e. apart.1 (slot-same sender receiver number s r n receiver_in f.number hr hn (sym f.slot_is ∙ sym e)))
            ∙ t.each s r n hs hr hn
            ∙ sym (cond-false (is_message (at send) s r n) (with_take (takes_by at K s r n) copy good) (takes_by at K s r n) (ap (λ (o : Option Sent). is_message o s r n) f.is ∙ apart.0))
      ];
    }

-- A take of a copy of no message.
take-of-none : (count : ℕ) (at : ℕ → Option Sent) (K : List Entry) (takes : List Takes) (own send copy : ℕ) (good : Bool) → at send ≡ None → AreTakes count at K takes → AreTakes count at (Take own send copy good ∷ K) takes
take-of-none count at K takes own send copy good none t = record {
  size = t.size;
  each = λ s r n hs hr hn.
      t.each s r n hs hr hn ∙ sym (cond-false (is_message (at send) s r n) (with_take (takes_by at K s r n) copy good) (takes_by at K s r n) (ap (λ (o : Option Sent). is_message o s r n) none));
}

send-noted : (K : List Entry) (sent : List ℕ) (own target number word place : ℕ) → own < CRAFTS → target < CRAFTS → place ≡ own * CRAFTS + target → number ≡ sends K own target + 1 → AreSent K sent →
    AreSent (Send own target number word ∷ K) (set sent place number)
send-noted K sent own target number word place ho ht is next t = record {
  size = length-set sent place number ∙ t.size;
  each = λ s r hs hr. elim (cases_eq own s) [
    | inr ne ↦ other s r hs hr (and_left (eqb own s) _ (ne_eqb own s ne)) (λ e. ne (omega arith))
    | inl p ↦ elim (cases_eq target r) [
      | inr ne ↦ other s r hs hr (and_right (eqb own s) _ (ne_eqb target r ne)) (λ e. ne (omega arith))
      | inl q ↦
          (let here : s * 16 + r ≡ place = omega arith in
          let same : sends K own target ≡ sends K s r = (λ j. sends K (p j) (q j)) in
          ap (λ (k : ℕ). get_or (set sent place number) k 0) here ∙ get_or-set_same sent place number 0 (let size = t.size in omega arith)
          ∙ next ∙ ap (λ (k : ℕ). k + 1) same
          ∙ sym (count-yes (is_send_of s r) (Send own target number word) K (and_from (eqb own s) _ (eq-eqb own s p) (eq-eqb target r q))))
    ]
  ];
}
  where
    other : (s r : ℕ) → s < CRAFTS → r < CRAFTS → (eqb own s && eqb target r) ≡ false → (place ≡ s * 16 + r → ⊥) → get_or (set sent place number) (s * 16 + r) 0 ≡ sends (Send own target number word ∷ K) s r
    other s r hs hr differ apart =
        get_or-set_other sent place (s * 16 + r) number 0 (λ e. apart (sym e)) ∙ t.each s r hs hr ∙ sym (count-no (is_send_of s r) (Send own target number word) K differ)

copies-noted : (e : Parts) (K : List Entry) (copies : List Copies) (own target number word : ℕ) → own < length e.crafts → target < CRAFTS → IsCycle number → AreCopies e K copies →
    AreCopies e (Send own target number word ∷ K) (set copies (message_slot own target number) (copies_for e own target number))
copies-noted e K copies own target number word ho ht hn t =
    let slot = message_slot own target number in
    let new = copies_for e own target number in
    let small : slot < length copies = (let place = slot-small (length e.crafts) own target number ho ht hn in let size = t.size in omega arith) in
    record {
      size = length-set copies slot new ∙ t.size;
      each = λ s r n hs hr hm sent. elim (matches own target number s r n) [
        | inl same ↦
            (let here : message_slot s r n ≡ slot = (let a = same.0 in let b = same.1 in let d = same.2 in sym (λ j. message_slot (a j) (b j) (d j))) in
            ap (λ (k : ℕ). get_or (set copies slot new) k no_copies) here ∙ get_or-set_same copies slot new no_copies small
            ∙ (let a = same.0 in let b = same.1 in let d = same.2 in λ j. copies_for e (a j) (b j) (d j)))
        | inr apart ↦
            get_or-set_other copies slot (message_slot s r n) new no_copies (λ q. apart.1 (slot-same own target number s r n ht hn hr hm (sym q)))
            ∙ t.each s r n hs hr hm (sym (ap (λ (b : Bool). b || was_sent K s r n) apart.0) ∙ sent)
      ];
    }

-- ---- what was sent

-- The entry at a position of a journal, with its parts in their ranges.
pub entry-fits : (e : Parts) (J : List Entry) (at : ℕ) (entry : Entry) → IsEncounter e → IsLegal (air_of e) J → slice_get (reverse J) at ≡ Some entry → IsEntry (length e.crafts) entry
entry-fits e J at entry valid legal is = (follows e J at entry valid legal is).fits

pub sent-found : (count : ℕ) (J : List Entry) (at : ℕ) (entry : Entry) (slot : Option ℕ) → slice_get (reverse J) at ≡ Some entry → IsSlotFound count (as_sent entry) slot → IsSlotFound count (sent_at J at) slot
sent-found count J at entry slot is h = subst (λ (o : Option Sent). IsSlotFound count o slot) (sym (sent-at-index J at ∙ ap (option_and_then as_sent) is)) h

pub none-sent : (J : List Entry) (at : ℕ) → slice_get (reverse J) at ≡ None → sent_at J at ≡ None
none-sent J at is = sent-at-index J at ∙ ap (option_and_then as_sent) is

pub slot-within : (e : Parts) (J K : List Entry) (takes : List Takes) (found : Option Sent) (slot : ℕ) → IsEncounter e → IsSlotOf (length e.crafts) found slot → AreTakes (length e.crafts) (sent_at J) K takes → slot < length takes
slot-within e J K takes found slot valid f t =
    let few = few-crafts e valid in
    let place = slot-small (length e.crafts) f.sent.sender f.sent.receiver f.sent.number f.sender (let r = f.receiver in omega arith) f.number in
    let size = t.size in
    let is = f.slot_is in
    omega arith

pub copies-within : (e : Parts) (K : List Entry) (copies : List Copies) (own target number : ℕ) → IsEncounter e → own < length e.crafts → target < length e.crafts → IsCycle number → AreCopies e K copies → message_slot own target number < length copies
copies-within e K copies own target number valid ho ht hn t =
    let few = few-crafts e valid in
    let place = slot-small (length e.crafts) own target number ho (omega arith) hn in
    let size = t.size in
    omega arith

-- ---- one entry more of a journal

-- What is noted of these entries, which are the first ones.
notes-of : (e : Parts) (J K : List Entry) (at : ℕ) (copies : List Copies) (takes : List Takes) (sent : List ℕ) → read_of J at ≡ K → AreCopies e K copies → AreTakes (length e.crafts) (sent_at J) K takes → AreSent K sent → AreNotes e J at copies takes sent
notes-of e J K at copies takes sent is cs ts ss = record {
  copies_are = subst (λ (L : List Entry). AreCopies e L copies) (sym is) cs;
  takes_are = subst (λ (L : List Entry). AreTakes (length e.crafts) (sent_at J) L takes) (sym is) ts;
  sent_are = subst (λ (L : List Entry). AreSent L sent) (sym is) ss;
}

module _ (e : Parts) (J : List Entry) (at : ℕ) (copies : List Copies) (takes : List Takes) (sent : List ℕ) (valid : IsEncounter e) (legal : IsLegal (air_of e) J) (t : AreNotes e J at copies takes sent) where
  pub commit-noted : (own cycle : ℕ) (cells : Cells) → slice_get (reverse J) at ≡ Some (Commit own cycle cells) → AreNotes e J (at + 1) copies takes sent
  commit-noted own cycle cells is =
      let x = Commit own cycle cells in
      let cs : AreCopies e (x ∷ read_of J at) copies = record { size = t.copies_are.size; each = t.copies_are.each } in
      let ts : AreTakes (length e.crafts) (sent_at J) (x ∷ read_of J at) takes = record { size = t.takes_are.size; each = t.takes_are.each } in
      let ss : AreSent (x ∷ read_of J at) sent = record { size = t.sent_are.size; each = t.sent_are.each } in
      notes-of e J (x ∷ read_of J at) (at + 1) copies takes sent (read-more J at x is) cs ts ss

  pub sent-noted : (own target number word : ℕ) → slice_get (reverse J) at ≡ Some (Send own target number word) →
      AreNotes e J (at + 1) (set copies (message_slot own target number) (copies_for e own target number)) takes (set sent (own * CRAFTS + target) number)
  sent-noted own target number word is =
      let x = Send own target number word in
      let f = follows e J at x valid legal is in
      let few : length e.crafts ≤ CRAFTS = few-crafts e valid in
      let target_in : target < CRAFTS = (let a = f.fits.1 in omega arith) in
      let ts : AreTakes (length e.crafts) (sent_at J) (x ∷ read_of J at) takes = record { size = t.takes_are.size; each = t.takes_are.each } in
      let ss = send-noted (read_of J at) sent own target number word (own * CRAFTS + target) (let a = f.fits.0 in omega arith) target_in refl (allowed f.legal).number_is t.sent_are in
      let cs = copies-noted e (read_of J at) copies own target number word f.fits.0 target_in f.fits.2 t.copies_are in
      notes-of e J (x ∷ read_of J at) (at + 1) (set copies (message_slot own target number) (copies_for e own target number)) takes (set sent (own * CRAFTS + target) number) f.grows cs ts ss

  pub taken-noted : (own send copy slot : ℕ) (good : Bool) → slice_get (reverse J) at ≡ Some (Take own send copy good) → IsSlotOf (length e.crafts) (sent_at J send) slot →
      AreNotes e J (at + 1) copies (set takes slot (with_take (get_or takes slot no_takes) copy good)) sent
  taken-noted own send copy slot good is found =
      let x = Take own send copy good in
      let cs : AreCopies e (x ∷ read_of J at) copies = record { size = t.copies_are.size; each = t.copies_are.each } in
      let ts = take-noted (length e.crafts) (sent_at J) (read_of J at) takes own send copy slot good (few-crafts e valid) found t.takes_are in
      let ss : AreSent (x ∷ read_of J at) sent = record { size = t.sent_are.size; each = t.sent_are.each } in
      notes-of e J (x ∷ read_of J at) (at + 1) copies (set takes slot (with_take (get_or takes slot no_takes) copy good)) sent (read-more J at x is) cs ts ss

  pub none-noted : (own send copy : ℕ) (good : Bool) → slice_get (reverse J) at ≡ Some (Take own send copy good) → sent_at J send ≡ None → AreNotes e J (at + 1) copies takes sent
  none-noted own send copy good is none =
      let x = Take own send copy good in
      let cs : AreCopies e (x ∷ read_of J at) copies = record { size = t.copies_are.size; each = t.copies_are.each } in
      let ts = take-of-none (length e.crafts) (sent_at J) (read_of J at) takes own send copy good none t.takes_are in
      let ss : AreSent (x ∷ read_of J at) sent = record { size = t.sent_are.size; each = t.sent_are.each } in
      notes-of e J (x ∷ read_of J at) (at + 1) copies takes sent (read-more J at x is) cs ts ss

-- Past the end nothing is noted.
pub notes-past : (e : Parts) (J : List Entry) (at : ℕ) (copies : List Copies) (takes : List Takes) (sent : List ℕ) → slice_get (reverse J) at ≡ None → AreNotes e J at copies takes sent → AreNotes e J (at + 1) copies takes sent
notes-past e J at copies takes sent none t =
    let past : length J ≤ at = read-past J at none in
    let same : read_of J (at + 1) ≡ read_of J at = read-all J (at + 1) (omega arith) ∙ sym (read-all J at past) in
    notes-of e J (read_of J at) (at + 1) copies takes sent same t.copies_are t.takes_are t.sent_are

-- At the end all is noted.
pub notes-end : (e : Parts) (J : List Entry) (at : ℕ) (copies : List Copies) (takes : List Takes) (sent : List ℕ) → length J ≤ at → AreNotes e J at copies takes sent → AreNotes e J (length J) copies takes sent
notes-end e J at copies takes sent past t =
    let same : read_of J (length J) ≡ read_of J at = read-all J (length J) (omega arith) ∙ sym (read-all J at past) in
    notes-of e J (read_of J at) (length J) copies takes sent same t.copies_are t.takes_are t.sent_are

-- ---- what is known at the end

pub sends-few-by : (e : Parts) (J : List Entry) → IsEncounter e → IsLegal (air_of e) J → (sender receiver : ℕ) → sends J sender receiver ≤ 600
sends-few-by e J valid legal sender receiver = (let a = sends-few (air_of e) J legal sender receiver in let b = few-commits e J valid legal sender in omega arith)

module _ (e : Parts) (J : List Entry) (copies : List Copies) (takes : List Takes) (sent : List ℕ) (sender receiver : ℕ) (valid : IsEncounter e) (t : AreNotes e J (length J) copies takes sent) (hs : sender < length e.crafts) (hr : receiver < length e.crafts) where
  receiver-in : receiver < CRAFTS
  receiver-in = (let few = few-crafts e valid in omega arith)

  pub sent-known : (place : ℕ) → place ≡ sender * CRAFTS + receiver → get_or sent place 0 ≡ sends J sender receiver
  sent-known place is =
      let few = few-crafts e valid in
      ap (λ (k : ℕ). get_or sent k 0) is ∙ t.sent_are.each sender receiver (omega arith) receiver-in ∙ ap (λ (K : List Entry). sends K sender receiver) (read-all J (length J) (omega arith))

  pub takes-known : (number : ℕ) → IsCycle number → get_or takes (message_slot sender receiver number) no_takes ≡ takes_by (sent_at J) J sender receiver number
  takes-known number hn = t.takes_are.each sender receiver number hs receiver-in hn ∙ ap (λ (K : List Entry). takes_by (sent_at J) K sender receiver number) (read-all J (length J) (omega arith))

  pub takes-there : (number : ℕ) → IsCycle number → message_slot sender receiver number < length takes
  takes-there number hn =
      let small = slot-small (length e.crafts) sender receiver number hs receiver-in hn in
      let size = t.takes_are.size in
      omega arith

  pub copies-known : (number : ℕ) → IsCycle number → was_sent J sender receiver number ≡ true → get_or copies (message_slot sender receiver number) no_copies ≡ copies_for e sender receiver number
  copies-known number hn is = t.copies_are.each sender receiver number hs receiver-in hn (ap (λ (K : List Entry). was_sent K sender receiver number) (read-all J (length J) (omega arith)) ∙ is)

  pub copies-there : (number : ℕ) → IsCycle number → message_slot sender receiver number < length copies
  copies-there number hn =
      let small = slot-small (length e.crafts) sender receiver number hs receiver-in hn in
      let size = t.copies_are.size in
      omega arith
