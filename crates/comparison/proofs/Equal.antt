-- Equal tables are those of equal messages.
use Rattle.std.proofs.Common.{◌≡◌, ℕ, ◌+◌, ◌*◌, ◌/◌, ◌%◌, ◌≤◌, Bool, true, List, length, get_or, refl, sym, ap, ◌∙◌, arith, Option, Some, None}
use Rattle.std.specs.Option.{option_eq}
use Rattle.std.proofs.lemmas.List.{ext_get_or}
use Rattle.acas_base.specs.declared.entry.Entry.{Entry}
use Rattle.air_rules.specs.Journal.{sent_at}
use Rattle.comparison.proofs.Slots.{IsSlotted, slotted}
use Rattle.comparison.specs.Messages.{AreSameMessages, AreTables, copy_slot, message_slot}

-- What `==` decides of two options.
pub option-decides : {X : Type 0} (E : X → X → Bool) → ((a b : X) → (E a b ≡ true → a ≡ b) × (a ≡ b → E a b ≡ true)) → (p q : Option X) → (option_eq E p q ≡ true → p ≡ q) × (p ≡ q → option_eq E p q ≡ true)
option-decides E h None None = (λ t. refl, λ e. refl)
option-decides E h None (Some b) = (λ t. absurd cc, λ e. absurd cc)
option-decides E h (Some a) None = (λ t. absurd cc, λ e. absurd cc)
option-decides E h (Some a) (Some b) = (λ t. ap Some ((h a b).0 t), λ e. (h a b).1 (let same : a ≡ b = cc in same))

module _ (J K : List Entry) (words others : List (Option ℕ)) (results takes : List (Option Bool)) (t : AreTables (sent_at J) J words results) (u : AreTables (sent_at K) K others takes) where
  pub same-messages : words ≡ others → results ≡ takes → AreSameMessages J K
  same-messages e f = record {
    words = λ s r n hs hr hn. sym (t.word s r n hs hr hn) ∙ ap (λ (xs : List (Option ℕ)). get_or xs (message_slot s r n) None) e ∙ u.word s r n hs hr hn;
    results = λ s r n c hs hr hn hc. sym (t.result s r n c hs hr hn hc) ∙ ap (λ (xs : List (Option Bool)). get_or xs (copy_slot (message_slot s r n) c) None) f ∙ u.result s r n c hs hr hn hc;
  }

  pub same-words : AreSameMessages J K → words ≡ others
  same-words m = ext_get_or None words others (t.messages ∙ sym u.messages) (λ i h.
      let at : IsSlotted i = slotted i (let size = t.messages in omega arith) in
      ap (λ (k : ℕ). get_or words k None) at.is ∙ t.word at.sender at.receiver at.number at.sender_in at.receiver_in at.number_in
      ∙ m.words at.sender at.receiver at.number at.sender_in at.receiver_in at.number_in
      ∙ sym (ap (λ (k : ℕ). get_or others k None) at.is ∙ u.word at.sender at.receiver at.number at.sender_in at.receiver_in at.number_in))

  pub same-results : AreSameMessages J K → results ≡ takes
  same-results m = ext_get_or None results takes (t.copies ∙ sym u.copies) (λ i h.
      let size : length results ≡ 460800 = t.copies in
      let at : IsSlotted (i / 3) = slotted (i / 3) (omega arith) in
      let copy : i % 3 ≤ 2 = omega arith in
      let is : i ≡ copy_slot (message_slot at.sender at.receiver at.number) (i % 3) = (let s : i / 3 ≡ message_slot at.sender at.receiver at.number = at.is in let parts : i ≡ i / 3 * 3 + i % 3 = omega arith in parts ∙ ap (λ (k : ℕ). k * 3 + i % 3) s) in
      ap (λ (k : ℕ). get_or results k None) is ∙ t.result at.sender at.receiver at.number (i % 3) at.sender_in at.receiver_in at.number_in copy
      ∙ m.results at.sender at.receiver at.number (i % 3) at.sender_in at.receiver_in at.number_in copy
      ∙ sym (ap (λ (k : ℕ). get_or takes k None) is ∙ u.result at.sender at.receiver at.number (i % 3) at.sender_in at.receiver_in at.number_in copy))
