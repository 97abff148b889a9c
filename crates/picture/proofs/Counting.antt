-- The messages that were sent, counted.
use Rattle.std.proofs.Common.{◌≡◌, ◌+◌, ◌≤◌, List, [], ◌∷◌, length, refl, arith, inl, inr}
use Rattle.std.proofs.lemmas.Bool.{cases_Bool, cond-false, cond-true}
use Rattle.acas_base.specs.declared.entry.Entry.{Entry}
use Rattle.picture.specs.Head.{counted, is_send, sent_in}

pub sent-none : sent_in [] ≡ 0
unfolding sent_in
sent-none = refl

pub sent-more : (entry : Entry) (K : List Entry) → sent_in (entry ∷ K) ≡ counted (sent_in K) entry
unfolding sent_in
sent-more entry K = refl

-- They aren't more than the entries.
pub few-sent : (K : List Entry) → sent_in K ≤ length K
few-sent [] = omega (arith, sent-none)
few-sent (entry ∷ K) =
    let ih = few-sent K in
    let more = sent-more entry K in
    elim (cases_Bool (is_send entry)) [
      | inl met ↦ (let one = cond-true (is_send entry) (sent_in K + 1) (sent_in K) met in omega arith)
      | inr unmet ↦ (let none = cond-false (is_send entry) (sent_in K + 1) (sent_in K) unmet in omega arith)
    ]
