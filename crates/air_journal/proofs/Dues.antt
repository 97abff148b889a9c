-- What the queues say of what is due, and how much they hold.
use Rattle.std.proofs.Common.{◌≡◌, ℕ, suc, zero, ◌+◌, ◌-◌, ◌*◌, ◌<◌, ◌≤◌, Bool, true, false, not, ◌&&◌, eqb, leb, List, [], ◌∷◌, ◌++◌, length, take, Option, Some, None, slice_get, sym, refl, ap, ◌∙◌, subst, arith, inl, inr, eqb-true, eq-eqb, ne_eqb, le-leb, zero-le, length-append}
use Rattle.std.specs.List.{remove}
use Rattle.std.proofs.lemmas.Bool.{cond-false, cond-true, cond_both, and_parts, and_from, and_left, and_right, cases_Bool, cases_lt, not-true, not_from_false, leb-true, lt-leb, false_from_ne_true}
use Rattle.acas_base.specs.declared.advisory.Vrc.{Vrc}
use Rattle.acas_base.specs.declared.entry.Entry.{Entry}
use Rattle.acas_base.specs.declared.entry.Entry.TheVariants.{Commit, Send, Take}
use Rattle.acas_base.specs.declared.link.CopyPlan.{CopyPlan}
use Rattle.air_journal.proofs.Queued.{is-queue}
use Rattle.air_journal.specs.Kept.{copies_from, is_copy, read_as, waiting, without}
use Rattle.air_journal.specs.Queues.{AreOrdered, IsBefore, IsFirstDueAt, IsIn, IsQueue, IsWaiting, NoneDue}
use Rattle.air_journal.specs.declared.kept.Waiting.{Waiting}
use Rattle.air_rules.proofs.Pace.{active-ra, count-no, count-yes, later-more, later-none, send-shows}
use Rattle.air_rules.specs.Air.{Air, IsSound, copy_plan}
use Rattle.air_rules.specs.Due.{IsFirstDue, NothingDue, is_copy_due, is_due, is_free}
use Rattle.air_rules.specs.Journal.{Sent, WasSent, commits, count_of, entries_after, is_commit_of, is_send_of, sends, sent_at, was_taken}
use Rattle.air_rules.specs.Rules.{IsLegal}
use Rattle.air_rules.specs.Takes.{is_from}

few-after : (f : Entry → Bool) (K : List Entry) (p : ℕ) → count_of f (entries_after K p) ≤ count_of f K
few-after f [] p = zero-le
few-after f (x ∷ K) p = elim (cases_lt p (length K)) [
  | inl h ↦ subst (λ L. count_of f L ≤ count_of f (x ∷ K)) (sym (later-more x K p h)) (let ih = few-after f K p in elim (cases_Bool (f x)) [
    | inl y ↦ (let a = count-yes f x K y in let b = count-yes f x (entries_after K p) y in omega arith)
    | inr n ↦ (let a = count-no f x K n in let b = count-no f x (entries_after K p) n in omega arith)
  ])
  | inr h ↦ subst (λ L. count_of f L ≤ count_of f (x ∷ K)) (sym (later-none x K p h)) zero-le
]

-- ---- due and waiting

pub waits-due : (air : Air) (K : List Entry) (j i : ℕ) (w : Waiting) → IsWaiting air K j i w → is_due air K i w.send w.copy ≡ leb w.due (commits K i)
waits-due air K j i w h =
    let n = commits (entries_after K w.send) i in
    let a : is_due air K i w.send w.copy ≡ is_copy_due air K (Some h.sent) i w.send w.copy = ap (λ o. is_copy_due air K o i w.send w.copy) h.from.here in
    let d : w.due + n ≡ commits K i + h.plan.hold = h.due_is in
    elim (cases_lt (commits K i) w.due) [
      | inl lt ↦ a ∙ and_right (eqb h.sent.receiver i) _ (and_left _ (not (was_taken K i w.send w.copy)) (ap (λ o. is_free o n) h.planned ∙ lt-leb h.plan.hold n (omega arith))) ∙ sym (lt-leb w.due (commits K i) lt)
      | inr ge ↦ a ∙ and_from _ _ (eq-eqb _ _ h.from.receiver) (and_from _ _ (ap (λ o. is_free o n) h.planned ∙ le-leb h.plan.hold n (omega arith)) (not_from_false _ h.untaken)) ∙ sym (le-leb w.due (commits K i) ge)
    ]

pub record DueFrom (air : Air) (K : List Entry) (i p c : ℕ) : Type 0 where
  pub sender : ℕ
  pub below : sender < air.count
  pub it : Waiting
  pub waits : IsWaiting air K sender i it
  pub send_is : it.send ≡ p
  pub copy_is : it.copy ≡ c
  pub due : it.due ≤ commits K i

pub due-waits : (air : Air) → IsSound air → (K : List Entry) → IsLegal air K → (i p c : ℕ) → is_due air K i p c ≡ true → DueFrom air K i p c
due-waits air sound K l i p c d = go (sent_at K p) refl d
  where
    few : commits (entries_after K p) i ≤ commits K i
    few = few-after (is_commit_of i) K p

    with_plan : (S : Sent) → sent_at K p ≡ Some S → S.receiver ≡ i → was_taken K i p c ≡ false → (o : Option CopyPlan) → copy_plan air S c ≡ o → is_free o (commits (entries_after K p) i) ≡ true → DueFrom air K i p c
    with_plan S e r t None f h = absurd (cc)
    with_plan S e r t (Some plan) f h =
        let hold : plan.hold ≤ commits (entries_after K p) i = leb-true _ _ h in
        let from : WasSent K p S.sender i S = record { here = e; sender = refl; receiver = r } in
        record {
          sender = S.sender;
          below = sound.counted S.sender (active-ra air S.sender (send-shows air K l p S.sender i S from).sender_ra);
          it = record { send = p; copy = c; due = commits K i + plan.hold - commits (entries_after K p) i; reads = read_as air.flip air.read S.word plan };
          waits = record { sent = S; from = from; plan = plan; planned = f; reads_is = refl; due_is = (let x = few in omega arith); untaken = t };
          send_is = refl;
          copy_is = refl;
          due = omega arith;
        }

    go : (o : Option Sent) → sent_at K p ≡ o → is_copy_due air K o i p c ≡ true → DueFrom air K i p c
    go None e h = absurd (cc)
    go (Some S) e h =
        let a = and_parts (eqb S.receiver i) _ h in
        let b = and_parts (is_free (copy_plan air S c) (commits (entries_after K p) i)) _ a.1 in
        with_plan S e (eqb-true _ _ a.0) (not-true _ b.1) (copy_plan air S c) refl b.0

-- Nothing is due where no queue has what is due.
pub nothing-due : (air : Air) → IsSound air → (K : List Entry) → IsLegal air K → (i : ℕ) → ((j : ℕ) → j < air.count → NoneDue (waiting air K j i) (commits K i)) → NothingDue air K i
nothing-due air sound K l i none p c = false_from_ne_true _ (λ d.
    let f = due-waits air sound K l i p c d in
    let a : commits K i < f.it.due = none f.sender f.below f.it ((is-queue air sound K l f.sender i).whole f.it f.waits) in
    let b : f.it.due ≤ commits K i = f.due in omega arith)

-- ---- places in a queue

pub in-at : (ws : List Waiting) (k : ℕ) (w : Waiting) → slice_get ws k ≡ Some w → IsIn w ws
in-at [] k w e = absurd (cc)
in-at (x ∷ xs) zero w e = inl (cc)
in-at (x ∷ xs) (suc k) w e = inr (in-at xs k w e)

-- Another element of an ordered queue stands before the place or comes after what is there.
pub data Side (ws : List Waiting) (k : ℕ) (w u : Waiting) : Type 0 where
  front : IsIn u (take k ws) → Side ws k w u
  same : u ≡ w → Side ws k w u
  behind : IsBefore w u → Side ws k w u

pub side : (ws : List Waiting) (k : ℕ) (w u : Waiting) → AreOrdered ws → slice_get ws k ≡ Some w → IsIn u ws → Side ws k w u
side [] k w u o e h = absurd h
side (x ∷ xs) zero w u o e (inl f) = same (let g : x ≡ w = cc in f ∙ g)
side (x ∷ xs) zero w u o e (inr h) = behind (subst (λ y. IsBefore y u) (let g : x ≡ w = cc in g) (o.0 u h))
side (x ∷ xs) (suc k) w u o e (inl f) = front (inl f)
side (x ∷ xs) (suc k) w u o e (inr h) = on (side xs k w u o.1 e h)
  where
    on : Side xs k w u → Side (x ∷ xs) (suc k) w u
    on (front a) = front (inr a)
    on (same a) = same a
    on (behind a) = behind a

-- The first due copy, from the first of each queue.
pub first-due : (air : Air) → IsSound air → (K : List Entry) → IsLegal air K → (i j k : ℕ) (w : Waiting) → IsFirstDueAt (waiting air K j i) (commits K i) k w →
    ((b : ℕ) → b < air.count → (u : Waiting) → IsIn u (waiting air K b i) → u.due ≤ commits K i → w.send ≤ u.send) → IsFirstDue air K i w.send w.copy
first-due air sound K l i j k w f least =
    record {
      due = waits-due air K j i w here ∙ le-leb w.due (commits K i) f.in_time;
      first_send = λ q lt d. false_from_ne_true _ (λ e.
          let g = due-waits air sound K l i q d e in
          let a : w.send ≤ g.it.send = least g.sender g.below g.it ((is-queue air sound K l g.sender i).whole g.it g.waits) g.due in
          let b : g.it.send ≡ q = g.send_is in omega arith);
      first_copy = λ d lt. false_from_ne_true _ (λ e.
          let g = due-waits air sound K l i w.send d e in
          let same_sender : g.sender ≡ j = sym g.waits.from.sender ∙ ap (λ (s : Sent). s.sender) (let p : sent_at K w.send ≡ Some g.waits.sent = ap (sent_at K) (sym g.send_is) ∙ g.waits.from.here in let r : sent_at K w.send ≡ Some here.sent = here.from.here in let z : g.waits.sent ≡ here.sent = cc in z) ∙ here.from.sender in
          copies g.it g.send_is g.due (let c : g.it.copy ≡ d = g.copy_is in omega arith) (side (waiting air K j i) k w g.it q.ordered f.here (subst (λ x. IsIn g.it (waiting air K x i)) same_sender ((is-queue air sound K l g.sender i).whole g.it g.waits))));
    }
  where
    q : IsQueue air K j i (waiting air K j i)
    q = is-queue air sound K l j i

    here : IsWaiting air K j i w
    here = q.holds w (in-at (waiting air K j i) k w f.here)

    copies : (u : Waiting) → u.send ≡ w.send → u.due ≤ commits K i → u.copy < w.copy → Side (waiting air K j i) k w u → ⊥
    copies u s d lt (front a) = let z : commits K i < u.due = f.first u a in omega arith
    copies u s d lt (same e) = let z : u.copy ≡ w.copy = ap (λ (x : Waiting). x.copy) e in omega arith
    copies u s d lt (behind (inl b)) = omega arith
    copies u s d lt (behind (inr b)) = let z : w.copy < u.copy = b.1 in omega arith

-- ---- taking one out

none-left : (p c : ℕ) (xs : List Waiting) → ((u : Waiting) → IsIn u xs → is_copy p c u ≡ false) → without p c xs ≡ xs
none-left p c [] h = refl
none-left p c (x ∷ xs) h = cond-false (is_copy p c x) (without p c xs) (x ∷ without p c xs) (h x (inl refl)) ∙ ap (λ L. x ∷ L) (none-left p c xs (λ u a. h u (inr a)))

not-same : (w u : Waiting) → IsBefore w u → is_copy w.send w.copy u ≡ false
not-same w u (inl a) = and_left _ _ (ne_eqb u.send w.send (omega arith))
not-same w u (inr b) = and_right _ _ (ne_eqb u.copy w.copy (let z : w.copy < u.copy = b.1 in omega arith))

not-same-back : (w u : Waiting) → IsBefore u w → is_copy w.send w.copy u ≡ false
not-same-back w u (inl a) = and_left _ _ (ne_eqb u.send w.send (omega arith))
not-same-back w u (inr b) = and_right _ _ (ne_eqb u.copy w.copy (let z : u.copy < w.copy = b.1 in omega arith))

pub remove-is : (xs : List Waiting) (k : ℕ) (w : Waiting) → AreOrdered xs → slice_get xs k ≡ Some w → remove xs k ≡ without w.send w.copy xs
remove-is [] k w o e = absurd (cc)
remove-is (x ∷ xs) zero w o e =
    let f : x ≡ w = cc in
    subst (λ y. xs ≡ without y.send y.copy (x ∷ xs)) f
    (sym (cond-true (is_copy x.send x.copy x) (without x.send x.copy xs) (x ∷ without x.send x.copy xs) (and_from _ _ (eq-eqb x.send x.send refl) (eq-eqb x.copy x.copy refl)) ∙ none-left x.send x.copy xs (λ u h. not-same x u (o.0 u h))))
remove-is (x ∷ xs) (suc k) w o e =
    ap (λ L. x ∷ L) (remove-is xs k w o.1 e) ∙ sym (cond-false (is_copy w.send w.copy x) (without w.send w.copy xs) (x ∷ without w.send w.copy xs) (not-same-back w x (o.0 w (in-at xs k w e))))

-- ---- how much a queue holds

without-few : (p c : ℕ) (xs : List Waiting) → length (without p c xs) ≤ length xs
without-few p c [] = zero-le
without-few p c (x ∷ xs) = let ih = without-few p c xs in cond_both (is_copy p c x) (without p c xs) (x ∷ without p c xs) (λ L. length L ≤ suc (length xs)) (λ _. omega arith) (λ _. omega arith)

length-copies : (reads : CopyPlan → Option Vrc) (at made c : ℕ) (plans : List CopyPlan) → length (copies_from reads at made c plans) ≡ length plans
length-copies reads at made c [] = refl
length-copies reads at made c (plan ∷ plans) = ap suc (length-copies reads at made (c + 1) plans)

pub waiting-few : (air : Air) → IsSound air → (K : List Entry) (j i : ℕ) → length (waiting air K j i) ≤ 3 * sends K j i
waiting-few air sound [] j i = zero-le
waiting-few air sound (Commit own cycle cells ∷ K) j i = waiting-few air sound K j i
waiting-few air sound (Send own target number word ∷ K) j i =
    let ih : length (waiting air K j i) ≤ 3 * sends K j i = waiting-few air sound K j i in
    let f : length (air.copies j i number) ≤ 3 = sound.few j i number in
    elim (cases_Bool (eqb own j && eqb target i)) [
      | inl y ↦ (let s : sends (Send own target number word ∷ K) j i ≡ sends K j i + 1 = count-yes (is_send_of j i) (Send own target number word) K y in
          let n : length (copies_from (read_as air.flip air.read word) (length K) (commits K i) 0 (air.copies j i number)) ≡ length (air.copies j i number) = length-copies (read_as air.flip air.read word) (length K) (commits K i) 0 (air.copies j i number) in
          let a : length (waiting air K j i ++ copies_from (read_as air.flip air.read word) (length K) (commits K i) 0 (air.copies j i number)) ≡ length (waiting air K j i) + length (copies_from (read_as air.flip air.read word) (length K) (commits K i) 0 (air.copies j i number)) = length-append _ _ in
          let w : length (waiting air (Send own target number word ∷ K) j i) ≡ length (waiting air K j i ++ copies_from (read_as air.flip air.read word) (length K) (commits K i) 0 (air.copies j i number)) = ap length (cond-true (eqb own j && eqb target i) _ (waiting air K j i) y) in
          omega arith)
      | inr n ↦ (let s : sends (Send own target number word ∷ K) j i ≡ sends K j i = count-no (is_send_of j i) (Send own target number word) K n in
          let w : length (waiting air (Send own target number word ∷ K) j i) ≡ length (waiting air K j i) = ap length (cond-false (eqb own j && eqb target i) (waiting air K j i ++ copies_from (read_as air.flip air.read word) (length K) (commits K i) 0 (air.copies j i number)) (waiting air K j i) n) in
          omega arith)
    ]
waiting-few air sound (Take own p c good ∷ K) j i =
    let ih : length (waiting air K j i) ≤ 3 * sends K j i = waiting-few air sound K j i in
    cond_both (eqb own i && is_from (sent_at K p) j) (without p c (waiting air K j i)) (waiting air K j i) (λ L. length L ≤ 3 * sends K j i) (λ _. let h : length (without p c (waiting air K j i)) ≤ length (waiting air K j i) = without-few p c (waiting air K j i) in omega arith) (λ _. ih)
