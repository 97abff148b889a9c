-- How many takes there are: at most three for a send.
use Rattle.std.proofs.Common.{◌≡◌, ℕ, zero, suc, ◌+◌, ◌*◌, ◌<◌, ◌≤◌, Bool, true, false, ◌&&◌, cond, eqb, List, [], ◌∷◌, length, Option, Some, None, sym, refl, ap, ◌∙◌, subst, arith, inl, inr, eqb-true, eq-eqb, ne_eqb, zero-le, le_refl}
use Rattle.std.proofs.lemmas.Bool.{cond-false, cond-true, and_parts, and_from, and_left, and_right, or_from, cases_Bool, cases_eq, not-true}
use Rattle.std.proofs.lemmas.Option.{slice_get_within}
use Rattle.acas_base.specs.declared.entry.Entry.{Entry}
use Rattle.acas_base.specs.declared.entry.Entry.TheVariants.{Commit, Send, Take}
use Rattle.acas_base.specs.declared.link.CopyPlan.{CopyPlan}
use Rattle.air_rules.proofs.EntryKinds.{is_send, is_take}
use Rattle.air_rules.proofs.Legal.{allowed, earlier}
use Rattle.air_rules.proofs.Pace.{count-no, count-rises, count-yes}
use Rattle.air_rules.proofs.Positions.{chosen, sent-more, sent-within}
use Rattle.air_rules.proofs.Sums.{total, total-last, total-le, total-more}
use Rattle.air_rules.specs.Air.{Air, IsSound, copy_plan}
use Rattle.air_rules.specs.Due.{is_copy_due, is_due, is_free}
use Rattle.air_rules.specs.Journal.{Sent, as_sent, commits, count_of, entries_after, sent_at, was_taken}
use Rattle.air_rules.specs.Rules.{IsLegal}

unfoldable pub takes_from : ℕ → Entry → Bool
takes_from p (Commit own cycle cells) = false
takes_from p (Send own target number word) = false
takes_from p (Take own q c good) = eqb q p

unfoldable pub three : Option Sent → ℕ
three None = 0
three (Some S) = 3

-- What shows that a copy is due.
pub record DueTake (air : Air) (K : List Entry) (i p c : ℕ) : Type 0 where
  pub sent : Sent
  pub here : sent_at K p ≡ Some sent
  pub receiver : sent.receiver ≡ i
  pub in_plan : c < 3
  pub untaken : was_taken K i p c ≡ false

due-take : (air : Air) → IsSound air → (K : List Entry) (i p c : ℕ) → is_due air K i p c ≡ true → DueTake air K i p c
due-take air sound K i p c d = go (sent_at K p) refl d
  where
    go : (o : Option Sent) → sent_at K p ≡ o → is_copy_due air K o i p c ≡ true → DueTake air K i p c
    go None e d = absurd (cc)
    go (Some S) e d =
        let a = and_parts (eqb S.receiver i) _ d in
        let b = and_parts (is_free (copy_plan air S c) (commits (entries_after K p) i)) _ a.1 in
        record { sent = S; here = e; receiver = eqb-true _ _ a.0; in_plan = of_plan (copy_plan air S c) refl b.0; untaken = not-true _ b.1 }
      where
        of_plan : (o : Option CopyPlan) → copy_plan air S c ≡ o → is_free o (commits (entries_after K p) i) ≡ true → c < 3
        of_plan None e h = absurd (cc)
        of_plan (Some pl) e h = let w : c < length (air.copies S.sender S.receiver S.number) = slice_get_within _ c pl e in let f : length (air.copies S.sender S.receiver S.number) ≤ 3 = sound.few S.sender S.receiver S.number in omega arith

pub takes-total : (air : Air) → IsSound air → (J : List Entry) → IsLegal air J → count_of is_take J ≤ total (λ p. count_of (takes_from p) J) (length J)
unfolding takes_from
takes-total air sound [] l = zero-le
takes-total air sound (Commit own cycle cells ∷ K) l =
    let ih : count_of is_take K ≤ total (λ p. count_of (takes_from p) K) (length K) = takes-total air sound K (earlier l) in
    rw total-last (omega arith)
takes-total air sound (Send own target number word ∷ K) l =
    let ih : count_of is_take K ≤ total (λ p. count_of (takes_from p) K) (length K) = takes-total air sound K (earlier l) in
    rw total-last (omega arith)
takes-total air sound (Take own q c good ∷ K) l =
    let x = Take own q c good in
    let d = due-take air sound K own q c (allowed l).due in
    let ih : count_of is_take K ≤ total (λ p. count_of (takes_from p) K) (length K) = takes-total air sound K (earlier l) in
    let one : count_of (takes_from q) (x ∷ K) ≡ count_of (takes_from q) K + 1 = count-yes (takes_from q) x K (eq-eqb q q refl) in
    let m : total (λ p. count_of (takes_from p) K) (length K) + 1 ≤ total (λ p. count_of (takes_from p) (x ∷ K)) (length K) =
    total-more (λ p. count_of (takes_from p) K) (λ p. count_of (takes_from p) (x ∷ K)) (length K) q (sent-within K q d.sent d.here) (omega arith) (λ k h. count-rises (takes_from k) x K) in
    rw total-last (omega arith)

bit : Bool → ℕ
bit b = cond b 1 0

bit-small : (b : Bool) → bit b ≤ 1
unfolding bit
bit-small true = le_refl 1
bit-small false = zero-le

-- Nobody has taken what isn't sent yet.
unborn : (air : Air) → IsSound air → (K : List Entry) → IsLegal air K → (p : ℕ) → length K ≤ p → count_of (takes_from p) K ≡ 0
unfolding takes_from
unborn air sound [] l p h = refl
unborn air sound (Commit own cycle cells ∷ K) l p h = unborn air sound K (earlier l) p (omega arith)
unborn air sound (Send own target number word ∷ K) l p h = unborn air sound K (earlier l) p (omega arith)
unborn air sound (Take own q c good ∷ K) l p h =
    let d = due-take air sound K own q c (allowed l).due in
    let w : q < length K = sent-within K q d.sent d.here in
    count-no (takes_from p) (Take own q c good) K (ne_eqb q p (omega arith)) ∙ unborn air sound K (earlier l) p (omega arith)

untaken-yet : (air : Air) → IsSound air → (K : List Entry) → IsLegal air K → (r p k : ℕ) → length K ≤ p → was_taken K r p k ≡ false
untaken-yet air sound [] l r p k h = refl
untaken-yet air sound (Commit own cycle cells ∷ K) l r p k h = untaken-yet air sound K (earlier l) r p k (omega arith)
untaken-yet air sound (Send own target number word ∷ K) l r p k h = untaken-yet air sound K (earlier l) r p k (omega arith)
untaken-yet air sound (Take own q c good ∷ K) l r p k h =
    let d = due-take air sound K own q c (allowed l).due in
    let w : q < length K = sent-within K q d.sent d.here in
    or_from _ _ (and_right (eqb own r) _ (and_left (eqb q p) (eqb c k) (ne_eqb q p (omega arith)))) (untaken-yet air sound K (earlier l) r p k (omega arith))

flags : List Entry → ℕ → ℕ → ℕ
flags K r p = bit (was_taken K r p 0) + (bit (was_taken K r p 1) + bit (was_taken K r p 2))

flags-small : (K : List Entry) (r p : ℕ) → flags K r p ≤ 3
unfolding flags
flags-small K r p = omega (arith, bit-small (was_taken K r p 0), bit-small (was_taken K r p 1), bit-small (was_taken K r p 2))

-- One more copy is taken.
flags-more : (own q c : ℕ) (good : Bool) (K : List Entry) → c < 3 → was_taken K own q c ≡ false → flags (Take own q c good ∷ K) own q ≡ flags K own q + 1
unfolding flags bit
flags-more own q zero good K h u =
    let y : (eqb own own && (eqb q q && eqb 0 0)) ≡ true = and_from _ _ (eq-eqb own own refl) (and_from _ _ (eq-eqb q q refl) refl) in
    let n : (m : ℕ) → (eqb own own && (eqb q q && false)) ≡ false = λ m. and_right (eqb own own) _ (and_right (eqb q q) false refl) in
    rw (y, n 0, u) (omega arith)
flags-more own q (suc zero) good K h u =
    let y : (eqb own own && (eqb q q && eqb 1 1)) ≡ true = and_from _ _ (eq-eqb own own refl) (and_from _ _ (eq-eqb q q refl) refl) in
    let n : (eqb own own && (eqb q q && false)) ≡ false = and_right (eqb own own) _ (and_right (eqb q q) false refl) in
    rw (y, n, u) (omega arith)
flags-more own q (suc (suc zero)) good K h u =
    let y : (eqb own own && (eqb q q && eqb 2 2)) ≡ true = and_from _ _ (eq-eqb own own refl) (and_from _ _ (eq-eqb q q refl) refl) in
    let n : (eqb own own && (eqb q q && false)) ≡ false = and_right (eqb own own) _ (and_right (eqb q q) false refl) in
    rw (y, n, u) (omega arith)
flags-more own q (suc (suc (suc c))) good K h u = absurd (omega arith)

none-less : (x : Entry) (K : List Entry) (p : ℕ) → sent_at (x ∷ K) p ≡ None → sent_at K p ≡ None
none-less x K p e = go (sent_at K p) refl
  where
    go : (o : Option Sent) → sent_at K p ≡ o → sent_at K p ≡ None
    go None q = q
    go (Some S) q = absurd (let f : None ≡ Some S = sym e ∙ sent-more x K p S q in cc)

none-named : (air : Air) → IsSound air → (K : List Entry) → IsLegal air K → (p : ℕ) → sent_at K p ≡ None → count_of (takes_from p) K ≡ 0
unfolding takes_from
none-named air sound [] l p e = refl
none-named air sound (Commit own cycle cells ∷ K) l p e = none-named air sound K (earlier l) p (none-less (Commit own cycle cells) K p e)
none-named air sound (Send own target number word ∷ K) l p e = none-named air sound K (earlier l) p (none-less (Send own target number word) K p e)
none-named air sound (Take own q c good ∷ K) l p e =
    let x = Take own q c good in
    let d = due-take air sound K own q c (allowed l).due in
    let less = none-less x K p e in
    count-no (takes_from p) x K (ne_eqb q p (λ f. let g : None ≡ Some d.sent = sym less ∙ ap (sent_at K) (sym f) ∙ d.here in cc)) ∙ none-named air sound K (earlier l) p less

flags-same : (own q c : ℕ) (good : Bool) (K : List Entry) (r p : ℕ) → (q ≡ p → ⊥) → flags (Take own q c good ∷ K) r p ≡ flags K r p
unfolding flags
flags-same own q c good K r p ne =
    let n : (k : ℕ) → (eqb own r && (eqb q p && eqb c k)) ≡ false = λ k. and_right (eqb own r) _ (and_left (eqb q p) _ (ne_eqb q p ne)) in
    rw (n 0, n 1, n 2) refl

each : (air : Air) → IsSound air → (K : List Entry) → IsLegal air K → (p : ℕ) (S : Sent) → sent_at K p ≡ Some S → count_of (takes_from p) K ≡ flags K S.receiver p
unfolding takes_from flags bit
each air sound [] l p S e = absurd (cc)
each air sound (Commit own cycle cells ∷ K) l p S e =
    let ih = each air sound K (earlier l) p S in
    elim (chosen (eqb p (length K)) None (sent_at K p) (Some S) e) [ inl h ↦ absurd (let f = h.1 in cc) | inr h ↦ ih h.1 ]
each air sound (Send own target number word ∷ K) l p S e =
    let ih = each air sound K (earlier l) p S in
    elim (chosen (eqb p (length K)) _ (sent_at K p) (Some S) e) [
      | inl h ↦
          let q : p ≡ length K = eqb-true p _ h.0 in
          let u : (k : ℕ) → was_taken K S.receiver p k ≡ false = λ k. untaken-yet air sound K (earlier l) S.receiver p k (omega arith) in
          unborn air sound K (earlier l) p (omega arith) ∙ no_flags K S.receiver p u
      | inr h ↦ ih h.1
    ]
  where
    no_flags : (K : List Entry) (r p : ℕ) → ((k : ℕ) → was_taken K r p k ≡ false) → 0 ≡ flags K r p
    no_flags K r p u = rw (u 0, u 1, u 2) refl
each air sound (Take own q c good ∷ K) l p S e =
    let x = Take own q c good in
    let ih = each air sound K (earlier l) p S in
    let d = due-take air sound K own q c (allowed l).due in
    elim (chosen (eqb p (length K)) None (sent_at K p) (Some S) e) [
      | inl h ↦ absurd (let f = h.1 in cc)
      | inr h ↦ elim (cases_eq q p) [
        | inl f ↦
            let s : d.sent ≡ S = let g : Some d.sent ≡ Some S = sym d.here ∙ ap (sent_at K) f ∙ h.1 in cc in
            let r : own ≡ S.receiver = sym d.receiver ∙ ap (λ (t : Sent). t.receiver) s in
            let y : count_of (takes_from p) (x ∷ K) ≡ count_of (takes_from p) K + 1 = count-yes (takes_from p) x K (eq-eqb q p f) in
            let m : flags (x ∷ K) own q ≡ flags K own q + 1 = flags-more own q c good K d.in_plan d.untaken in
            y ∙ ap (λ k. k + 1) (ih h.1) ∙ sym (ap (λ k. flags (x ∷ K) k p) (sym r) ∙ ap (flags (x ∷ K) own) (sym f) ∙ m ∙ ap (λ k. k + 1) (ap (flags K own) f ∙ ap (λ k. flags K k p) r))
        | inr ne ↦ count-no (takes_from p) x K (ne_eqb q p ne) ∙ ih h.1 ∙ sym (flags-same own q c good K S.receiver p ne)
      ]
    ]

pub named-few : (air : Air) → IsSound air → (K : List Entry) → IsLegal air K → (p : ℕ) → count_of (takes_from p) K ≤ three (sent_at K p)
unfolding three
named-few air sound K l p = go (sent_at K p) refl
  where
    go : (o : Option Sent) → sent_at K p ≡ o → count_of (takes_from p) K ≤ three o
    go None e = let z : count_of (takes_from p) K ≡ 0 = none-named air sound K l p e in omega arith
    go (Some S) e = let z : count_of (takes_from p) K ≡ flags K S.receiver p = each air sound K l p S e in let f : flags K S.receiver p ≤ 3 = flags-small K S.receiver p in omega arith

three-sent : (x : Entry) → three (as_sent x) ≡ cond (is_send x) 3 0
unfolding three
three-sent (Commit own cycle cells) = refl
three-sent (Send own target number word) = refl
three-sent (Take own p c good) = refl

pub places : (J : List Entry) → total (λ p. three (sent_at J p)) (length J) ≤ 3 * count_of is_send J
unfolding total
places [] = zero-le
places (x ∷ K) =
    let n = length K in
    let ih : total (λ p. three (sent_at K p)) n ≤ 3 * count_of is_send K = places K in
    let a : total (λ p. three (sent_at (x ∷ K) p)) n ≤ total (λ p. three (sent_at K p)) n =
    total-le (λ p. three (sent_at (x ∷ K) p)) (λ p. three (sent_at K p)) n (λ k h.
    subst (λ (o : Option Sent). three o ≤ three (sent_at K k)) (sym (cond-false (eqb k n) (as_sent x) (sent_at K k) (ne_eqb k n (omega arith)))) (le_refl _)) in
    let b : three (sent_at (x ∷ K) n) ≡ cond (is_send x) 3 0 = ap three (cond-true (eqb n n) (as_sent x) (sent_at K n) (eq-eqb n n refl)) ∙ three-sent x in
    elim (cases_Bool (is_send x)) [
      | inl y ↦
          let c : count_of is_send (x ∷ K) ≡ count_of is_send K + 1 = count-yes is_send x K y in
          let d : three (sent_at (x ∷ K) n) ≡ 3 = b ∙ cond-true (is_send x) 3 0 y in
          omega arith
      | inr m ↦
          let c : count_of is_send (x ∷ K) ≡ count_of is_send K = count-no is_send x K m in
          let d : three (sent_at (x ∷ K) n) ≡ 0 = b ∙ cond-false (is_send x) 3 0 m in
          omega arith
    ]
