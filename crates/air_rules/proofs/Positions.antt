-- Tests, positions and Sends.
use Rattle.std.proofs.Common.{◌≡◌, ◌⊎◌, ℕ, ◌<◌, Bool, true, false, cond, eqb, List, [], ◌∷◌, length, Some, refl, ◌∙◌, arith, inl, inr, eqb-true, ne_eqb}
use Rattle.std.proofs.lemmas.Bool.{cond-false}
use Rattle.acas_base.specs.declared.entry.Entry.{Entry}
use Rattle.acas_base.specs.declared.entry.Entry.TheVariants.{Commit, Send, Take}
use Rattle.air_rules.specs.Journal.{Sent, WasSent, as_sent, before_last_commit, sent_at}

pub chosen : {X : Type 0} (b : Bool) (x y z : X) → cond b x y ≡ z → ((b ≡ true) × (x ≡ z)) ⊎ ((b ≡ false) × (y ≡ z))
chosen true x y z e = inl (refl, e)
chosen false x y z e = inr (refl, e)

pub sent-within : (K : List Entry) (p : ℕ) (S : Sent) → sent_at K p ≡ Some S → p < length K
sent-within [] p S e = cc
sent-within (x ∷ K) p S e =
    let n = length K in
    let ih = sent-within K p S in
    elim (chosen (eqb p n) (as_sent x) (sent_at K p) (Some S) e) [
      | inl h ↦ let q : p ≡ n = eqb-true p n h.0 in omega arith
      | inr h ↦ let q : p < n = ih h.1 in omega arith
    ]

pub sent-more : (x : Entry) (K : List Entry) (p : ℕ) (S : Sent) → sent_at K p ≡ Some S → sent_at (x ∷ K) p ≡ Some S
sent-more x K p S e =
    let h : p < length K = sent-within K p S e in
    cond-false (eqb p (length K)) (as_sent x) (sent_at K p) (ne_eqb p (length K) (omega arith)) ∙ e

pub was-sent-more : (x : Entry) (K : List Entry) (p j i : ℕ) (S : Sent) → WasSent K p j i S → WasSent (x ∷ K) p j i S
was-sent-more x K p j i S s = record { here = sent-more x K p S s.here; sender = s.sender; receiver = s.receiver }

-- What is before i's last commit is still there.
pub sent-before : (K : List Entry) (i p : ℕ) (S : Sent) → sent_at (before_last_commit K i) p ≡ Some S → sent_at K p ≡ Some S
sent-before [] i p S e = e
sent-before (Commit own cycle cells ∷ K) i p S e =
    let ih = sent-before K i p S in
    let x = Commit own cycle cells in
    elim (eqb own i) as (λ b. sent_at (cond b K (before_last_commit K i)) p ≡ Some S → sent_at (x ∷ K) p ≡ Some S) [
      | true ↦ λ f. sent-more x K p S f
      | false ↦ λ f. sent-more x K p S (ih f)
    ] e
sent-before (Send own target number word ∷ K) i p S e = sent-more (Send own target number word) K p S (sent-before K i p S e)
sent-before (Take own q c good ∷ K) i p S e = sent-more (Take own q c good) K p S (sent-before K i p S e)
