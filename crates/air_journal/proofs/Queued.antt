-- The queue of a pair holds exactly the copies that wait.
use Rattle.std.proofs.Common.{◌≡◌, ◌⊎◌, ℕ, suc, zero, ◌+◌, ◌<◌, ◌≤◌, Bool, true, false, ◌&&◌, eqb, List, [], ◌∷◌, ◌++◌, length, Option, Some, None, slice_get, sym, refl, ap, ◌∙◌, subst, arith, inl, inr, eqb-true, eq-eqb, ne_eqb}
use Rattle.std.proofs.lemmas.Bool.{eqb-false, cond-false, cond-true, cond_both, and_parts, and_from, and_cases, and_left, and_right, or_parts, or_from, cases_Bool}
use Rattle.acas_base.specs.declared.advisory.Vrc.{Vrc}
use Rattle.acas_base.specs.declared.entry.Entry.{Entry}
use Rattle.acas_base.specs.declared.entry.Entry.TheVariants.{Commit, Send, Take}
use Rattle.acas_base.specs.declared.link.CopyPlan.{CopyPlan}
use Rattle.air_journal.specs.Kept.{copies_from, is_copy, read_as, waiting, without}
use Rattle.air_journal.specs.Queues.{AreOrdered, IsBefore, IsIn, IsQueue, IsWaiting}
use Rattle.air_journal.specs.declared.kept.Waiting.{Waiting}
use Rattle.air_rules.proofs.Legal.{allowed, earlier}
use Rattle.air_rules.proofs.Pace.{count-no, count-yes, later-more, later-none}
use Rattle.air_rules.proofs.Positions.{chosen, sent-within, was-sent-more}
use Rattle.air_rules.specs.Air.{Air, IsSound, copy_plan}
use Rattle.air_rules.specs.Due.{is_copy_due, is_due}
use Rattle.air_rules.specs.Journal.{Sent, as_sent, commits, entries_after, is_commit_of, is_take_of, sent_at, was_taken}
use Rattle.air_rules.specs.Rules.{IsLegal}
use Rattle.air_rules.specs.Takes.{is_from}

-- ---- what isn't sent isn't taken

-- What is due was sent.
due-sent : (air : Air) (K : List Entry) (i p c : ℕ) → is_due air K i p c ≡ true → p < length K
due-sent air K i p c d = go (sent_at K p) refl d
  where
    go : (o : Option Sent) → sent_at K p ≡ o → is_copy_due air K o i p c ≡ true → p < length K
    go None e h = absurd (cc)
    go (Some sent) e h = sent-within K p sent e

pub untaken-yet : (air : Air) (K : List Entry) → IsLegal air K → (r p k : ℕ) → length K ≤ p → was_taken K r p k ≡ false
untaken-yet air [] l r p k h = refl
untaken-yet air (Commit own cycle cells ∷ K) l r p k h = untaken-yet air K (earlier l) r p k (omega arith)
untaken-yet air (Send own target number word ∷ K) l r p k h = untaken-yet air K (earlier l) r p k (omega arith)
untaken-yet air (Take own q c good ∷ K) l r p k h =
    let s : q < length K = due-sent air K own q c (allowed l).due in
    or_from _ _ (and_right (eqb own r) _ (and_left (eqb q p) _ (ne_eqb q p (omega arith)))) (untaken-yet air K (earlier l) r p k (omega arith))

-- ---- lists

pub in-append : (w : Waiting) (xs ys : List Waiting) → IsIn w (xs ++ ys) → IsIn w xs ⊎ IsIn w ys
in-append w [] ys h = inr h
in-append w (x ∷ xs) ys (inl e) = inl (inl e)
in-append w (x ∷ xs) ys (inr h) = elim (in-append w xs ys h) [ inl a ↦ inl (inr a) | inr b ↦ inr b ]

pub in-left : (w : Waiting) (xs ys : List Waiting) → IsIn w xs → IsIn w (xs ++ ys)
in-left w [] ys h = absurd h
in-left w (x ∷ xs) ys (inl e) = inl e
in-left w (x ∷ xs) ys (inr h) = inr (in-left w xs ys h)

pub in-right : (w : Waiting) (xs ys : List Waiting) → IsIn w ys → IsIn w (xs ++ ys)
in-right w [] ys h = h
in-right w (x ∷ xs) ys h = inr (in-right w xs ys h)

-- What is left without a copy.
pub in-without : (p c : ℕ) (w : Waiting) (xs : List Waiting) → IsIn w (without p c xs) → IsIn w xs × (is_copy p c w ≡ false)
in-without p c w [] h = absurd h
in-without p c w (x ∷ xs) h = elim (cases_Bool (is_copy p c x)) [
  | inl y ↦ let r = in-without p c w xs (subst (λ (L : List Waiting). IsIn w L) (cond-true (is_copy p c x) _ _ y) h) in (inr r.0, r.1)
  | inr n ↦ elim (subst (λ (L : List Waiting). IsIn w L) (cond-false (is_copy p c x) _ _ n) h) [
    | inl e ↦ (inl e, ap (is_copy p c) e ∙ n)
    | inr t ↦ let r = in-without p c w xs t in (inr r.0, r.1)
  ]
]

pub in-left-over : (p c : ℕ) (w : Waiting) (xs : List Waiting) → IsIn w xs → is_copy p c w ≡ false → IsIn w (without p c xs)
in-left-over p c w [] h n = absurd h
in-left-over p c w (x ∷ xs) (inl e) n =
    subst (λ (L : List Waiting). IsIn w L) (sym (cond-false (is_copy p c x) (without p c xs) (x ∷ without p c xs) (ap (is_copy p c) (sym e) ∙ n))) (inl e)
in-left-over p c w (x ∷ xs) (inr h) n =
    cond_both (is_copy p c x) (without p c xs) (x ∷ without p c xs) (λ L. IsIn w L) (λ _. in-left-over p c w xs h n) (λ _. inr (in-left-over p c w xs h n))

pub ordered-without : (p c : ℕ) (xs : List Waiting) → AreOrdered xs → AreOrdered (without p c xs)
ordered-without p c [] o = o
ordered-without p c (x ∷ xs) o =
    cond_both (is_copy p c x) (without p c xs) (x ∷ without p c xs) AreOrdered (λ _. ordered-without p c xs o.1)
    (λ _. (λ w h. o.0 w (in-without p c w xs h).0, ordered-without p c xs o.1))

pub ordered-append : (xs ys : List Waiting) → AreOrdered xs → AreOrdered ys → ((u w : Waiting) → IsIn u xs → IsIn w ys → IsBefore u w) → AreOrdered (xs ++ ys)
ordered-append [] ys o q h = q
ordered-append (x ∷ xs) ys o q h =
    (λ w a. elim (in-append w xs ys a) [ inl b ↦ o.0 w b | inr b ↦ h x w (inl refl) b ], ordered-append xs ys o.1 q (λ u w a b. h u w (inr a) b))

-- ---- the copies of one Send

abbrev make : ℕ → ℕ → ℕ → Option Vrc → Waiting
make s c d r = record { send = s; copy = c; due = d; reads = r }

pub is-made : (w : Waiting) (s c d : ℕ) (r : Option Vrc) → w.send ≡ s → w.copy ≡ c → w.due ≡ d → w.reads ≡ r → w ≡ make s c d r
is-made w s c d r e f g h = ap (λ x. make x w.copy w.due w.reads) e ∙ ap (λ x. make s x w.due w.reads) f ∙ ap (λ x. make s c x w.reads) g ∙ ap (λ x. make s c d x) h

pub record IsCopy (reads : CopyPlan → Option Vrc) (at made c : ℕ) (plans : List CopyPlan) (w : Waiting) : Type 0 where
  pub send_is : w.send ≡ at
  pub place : ℕ
  pub copy_is : w.copy ≡ c + place
  pub plan : CopyPlan
  pub planned : slice_get plans place ≡ Some plan
  pub due_is : w.due ≡ made + plan.hold
  pub reads_is : w.reads ≡ reads plan

pub copies-are : (reads : CopyPlan → Option Vrc) (at made c : ℕ) (plans : List CopyPlan) (w : Waiting) → IsIn w (copies_from reads at made c plans) → IsCopy reads at made c plans w
copies-are reads at made c [] w h = absurd h
copies-are reads at made c (plan ∷ plans) w (inl e) =
    record { send_is = ap (λ (x : Waiting). x.send) e; place = 0; copy_is = ap (λ (x : Waiting). x.copy) e ∙ omega arith; plan = plan; planned = refl; due_is = ap (λ (x : Waiting). x.due) e; reads_is = ap (λ (x : Waiting). x.reads) e }
copies-are reads at made c (plan ∷ plans) w (inr h) =
    let r = copies-are reads at made (c + 1) plans w h in
    record { send_is = r.send_is; place = suc r.place; copy_is = (let e : w.copy ≡ c + 1 + r.place = r.copy_is in omega arith); plan = r.plan; planned = r.planned; due_is = r.due_is; reads_is = r.reads_is }

pub copies-all : (reads : CopyPlan → Option Vrc) (at made c : ℕ) (plans : List CopyPlan) (w : Waiting) (k : ℕ) (plan : CopyPlan) → w.send ≡ at → w.copy ≡ c + k → slice_get plans k ≡ Some plan → w.due ≡ made + plan.hold → w.reads ≡ reads plan →
    IsIn w (copies_from reads at made c plans)
copies-all reads at made c [] w k plan a b p d r = absurd (cc)
copies-all reads at made c (x ∷ plans) w zero plan a b p d r = inl (let e : w.copy ≡ c = omega arith in let f : x ≡ plan = cc in let g : w.due ≡ made + x.hold = d ∙ ap (λ (q : CopyPlan). made + q.hold) (sym f) in
    is-made w at c (made + x.hold) (reads x) a e g (r ∙ ap reads (sym f)))
copies-all reads at made c (x ∷ plans) w (suc k) plan a b p d r = inr (copies-all reads at made (c + 1) plans w k plan a (omega arith) p d r)

pub copies-ordered : (reads : CopyPlan → Option Vrc) (at made c : ℕ) (plans : List CopyPlan) → AreOrdered (copies_from reads at made c plans)
copies-ordered reads at made c [] = tt
copies-ordered reads at made c (plan ∷ plans) =
    (λ w h. let r = copies-are reads at made (c + 1) plans w h in inr (sym r.send_is, let e : w.copy ≡ c + 1 + r.place = r.copy_is in omega arith), copies-ordered reads at made (c + 1) plans)

-- ---- one entry more

pub sent-less : (x : Entry) (K : List Entry) (p : ℕ) (S : Sent) → sent_at (x ∷ K) p ≡ Some S → ((p ≡ length K) × (as_sent x ≡ Some S)) ⊎ (sent_at K p ≡ Some S)
sent-less x K p S e = elim (chosen (eqb p (length K)) (as_sent x) (sent_at K p) (Some S) e) [
  | inl h ↦ inl (eqb-true p (length K) h.0, h.1)
  | inr h ↦ inr h.1
]

abbrev Now : List Entry → ℕ → ℕ → ℕ → ℕ → Type 0
Now K i p due hold = due + commits (entries_after K p) i ≡ commits K i + hold

now-more : (x : Entry) (K : List Entry) (i p due hold : ℕ) → p < length K → Now K i p due hold → Now (x ∷ K) i p due hold
now-more x K i p due hold h e =
    let l : commits (entries_after (x ∷ K) p) i ≡ commits (x ∷ entries_after K p) i = ap (λ L. commits L i) (later-more x K p h) in
    elim (cases_Bool (is_commit_of i x)) [
      | inl y ↦ (let a = count-yes (is_commit_of i) x K y in let b = count-yes (is_commit_of i) x (entries_after K p) y in omega arith)
      | inr n ↦ (let a = count-no (is_commit_of i) x K n in let b = count-no (is_commit_of i) x (entries_after K p) n in omega arith)
    ]

now-less : (x : Entry) (K : List Entry) (i p due hold : ℕ) → p < length K → Now (x ∷ K) i p due hold → Now K i p due hold
now-less x K i p due hold h e =
    let l : commits (entries_after (x ∷ K) p) i ≡ commits (x ∷ entries_after K p) i = ap (λ L. commits L i) (later-more x K p h) in
    elim (cases_Bool (is_commit_of i x)) [
      | inl y ↦ (let a = count-yes (is_commit_of i) x K y in let b = count-yes (is_commit_of i) x (entries_after K p) y in omega arith)
      | inr n ↦ (let a = count-no (is_commit_of i) x K n in let b = count-no (is_commit_of i) x (entries_after K p) n in omega arith)
    ]

waits-more : (air : Air) (x : Entry) (K : List Entry) (j i : ℕ) (w : Waiting) → IsWaiting air K j i w → is_take_of i w.send w.copy x ≡ false → IsWaiting air (x ∷ K) j i w
waits-more air x K j i w h n =
    record {
      sent = h.sent;
      from = was-sent-more x K w.send j i h.sent h.from;
      plan = h.plan;
      planned = h.planned;
      reads_is = h.reads_is;
      due_is = now-more x K i w.send w.due h.plan.hold (sent-within K w.send h.sent h.from.here) h.due_is;
      untaken = or_from _ _ n h.untaken;
    }

waits-less : (air : Air) (x : Entry) (K : List Entry) (j i : ℕ) (w : Waiting) (h : IsWaiting air (x ∷ K) j i w) → sent_at K w.send ≡ Some h.sent → IsWaiting air K j i w
waits-less air x K j i w h e =
    record {
      sent = h.sent;
      from = record { here = e; sender = h.from.sender; receiver = h.from.receiver };
      plan = h.plan;
      planned = h.planned;
      reads_is = h.reads_is;
      due_is = now-less x K i w.send w.due h.plan.hold (sent-within K w.send h.sent e) h.due_is;
      untaken = (or_parts (is_take_of i w.send w.copy x) (was_taken K i w.send w.copy) h.untaken).1;
    }

turned : (p c : ℕ) (w : Waiting) → is_copy p c w ≡ false → (eqb p w.send && eqb c w.copy) ≡ false
turned p c w h = elim (and_cases (eqb w.send p) (eqb w.copy c) h) [
  | inl a ↦ and_left _ _ (ne_eqb p w.send (λ e. eqb-false w.send p a (sym e)))
  | inr b ↦ and_right _ _ (ne_eqb c w.copy (λ e. eqb-false w.copy c b (sym e)))
]

turned-back : (p c : ℕ) (w : Waiting) → (eqb p w.send && eqb c w.copy) ≡ false → is_copy p c w ≡ false
turned-back p c w h = elim (and_cases (eqb p w.send) (eqb c w.copy) h) [
  | inl a ↦ and_left _ _ (ne_eqb w.send p (λ e. eqb-false p w.send a (sym e)))
  | inr b ↦ and_right _ _ (ne_eqb w.copy c (λ e. eqb-false c w.copy b (sym e)))
]

-- ---- the queue is what waits

after-send : (air : Air) → IsSound air → (K : List Entry) → IsLegal air K → (own target number word j i : ℕ) → IsQueue air K j i (waiting air K j i) →
    IsQueue air (Send own target number word ∷ K) j i (waiting air (Send own target number word ∷ K) j i)
after-send air sound K l own target number word j i q =
    elim (cases_Bool (eqb own j && eqb target i)) [
      | inl y ↦ subst (IsQueue air (x ∷ K) j i) (sym (cond-true (eqb own j && eqb target i) new old y)) (record {
        ordered = ordered-append old added q.ordered (copies-ordered (read_as air.flip air.read word) (length K) (commits K i) 0 (air.copies j i number))
            (λ u w a b. inl (let s = (copies-are (read_as air.flip air.read word) (length K) (commits K i) 0 (air.copies j i number) w b).send_is in let r = sent-within K u.send (q.holds u a).sent (q.holds u a).from.here in omega arith));
        holds = λ w h. elim (in-append w old added h) [
          | inl a ↦ waits-more air x K j i w (q.holds w a) refl
          | inr b ↦ fresh (and_parts _ _ y) w (copies-are (read_as air.flip air.read word) (length K) (commits K i) 0 (air.copies j i number) w b)
        ];
        whole = λ w h. elim (sent-less x K w.send h.sent h.from.here) [
          | inl a ↦ in-right w old added (born (and_parts _ _ y) w h a)
          | inr e ↦ in-left w old added (q.whole w (waits-less air x K j i w h e))
        ];
      })
      | inr n ↦ subst (IsQueue air (x ∷ K) j i) (sym (cond-false (eqb own j && eqb target i) new old n)) (record {
        ordered = q.ordered;
        holds = λ w h. waits-more air x K j i w (q.holds w h) refl;
        whole = λ w h. elim (sent-less x K w.send h.sent h.from.here) [
          | inl a ↦ absurd (other n w h a)
          | inr e ↦ q.whole w (waits-less air x K j i w h e)
        ];
      })
    ]
  where
    x : Entry
    x = Send own target number word

    old : List Waiting
    old = waiting air K j i

    added : List Waiting
    added = copies_from (read_as air.flip air.read word) (length K) (commits K i) 0 (air.copies j i number)

    new : List Waiting
    new = old ++ added

    S : Sent
    S = record { sender = own; receiver = target; number = number; word = word }

    fresh : (eqb own j ≡ true) × (eqb target i ≡ true) → (w : Waiting) → IsCopy (read_as air.flip air.read word) (length K) (commits K i) 0 (air.copies j i number) w → IsWaiting air (x ∷ K) j i w
    fresh y w r = record {
      sent = S;
      from = record { here = cond-true (eqb w.send (length K)) (Some S) (sent_at K w.send) (eq-eqb _ _ r.send_is); sender = eqb-true _ _ y.0; receiver = eqb-true _ _ y.1 };
      plan = r.plan;
      planned = ap (λ s. slice_get (air.copies s target number) w.copy) (eqb-true own j y.0) ∙ ap (λ t. slice_get (air.copies j t number) w.copy) (eqb-true target i y.1) ∙ ap (slice_get (air.copies j i number)) (let f : w.copy ≡ 0 + r.place = r.copy_is in let g : w.copy ≡ r.place = omega arith in g) ∙ r.planned;
      reads_is = r.reads_is;
      due_is = (let e : commits (entries_after (x ∷ K) w.send) i ≡ 0 = ap (λ L. commits L i) (later-none x K w.send (let f = r.send_is in omega arith)) in let d : w.due ≡ commits K i + r.plan.hold = r.due_is in omega arith);
      untaken = untaken-yet air K l i w.send w.copy (let f = r.send_is in omega arith);
    }

    born : (eqb own j ≡ true) × (eqb target i ≡ true) → (w : Waiting) (h : IsWaiting air (x ∷ K) j i w) → (w.send ≡ length K) × (as_sent x ≡ Some h.sent) → IsIn w added
    born y w h a =
        let e : S ≡ h.sent = (let f = a.1 in cc) in
        let pl : slice_get (air.copies j i number) w.copy ≡ Some h.plan =
        sym (ap (λ s. slice_get (air.copies s target number) w.copy) (eqb-true own j y.0) ∙ ap (λ t. slice_get (air.copies j t number) w.copy) (eqb-true target i y.1)) ∙ ap (λ (s : Sent). copy_plan air s w.copy) e ∙ h.planned in
        copies-all (read_as air.flip air.read word) (length K) (commits K i) 0 (air.copies j i number) w w.copy h.plan a.0 (omega arith) pl
        (let z : commits (entries_after (x ∷ K) w.send) i ≡ 0 = ap (λ L. commits L i) (later-none x K w.send (let f = a.0 in omega arith)) in let d : w.due + commits (entries_after (x ∷ K) w.send) i ≡ commits K i + h.plan.hold = h.due_is in omega arith)
        (h.reads_is ∙ ap (λ (s : Sent). read_as air.flip air.read s.word h.plan) (sym e))

    other : (eqb own j && eqb target i) ≡ false → (w : Waiting) (h : IsWaiting air (x ∷ K) j i w) → (w.send ≡ length K) × (as_sent x ≡ Some h.sent) → ⊥
    other n w h a =
        let e : S ≡ h.sent = (let f = a.1 in cc) in
        let o : own ≡ j = ap (λ (s : Sent). s.sender) e ∙ h.from.sender in
        let t : target ≡ i = ap (λ (s : Sent). s.receiver) e ∙ h.from.receiver in
        let z : (eqb own j && eqb target i) ≡ true = and_from _ _ (eq-eqb _ _ o) (eq-eqb _ _ t) in
        cc

after-take : (air : Air) (K : List Entry) (own p c : ℕ) (good : Bool) (j i : ℕ) → IsQueue air K j i (waiting air K j i) →
    IsQueue air (Take own p c good ∷ K) j i (waiting air (Take own p c good ∷ K) j i)
after-take air K own p c good j i q =
    elim (cases_Bool (eqb own i && is_from (sent_at K p) j)) [
      | inl y ↦ subst (IsQueue air (x ∷ K) j i) (sym (cond-true (eqb own i && is_from (sent_at K p) j) (without p c old) old y)) (record {
        ordered = ordered-without p c old q.ordered;
        holds = λ w h. (let r = in-without p c w old h in waits-more air x K j i w (q.holds w r.0) (and_right (eqb own i) _ (turned p c w r.1)));
        whole = λ w h. elim (sent-less x K w.send h.sent h.from.here) [
          | inl a ↦ absurd (let e = a.1 in cc)
          | inr e ↦ in-left-over p c w old (q.whole w (waits-less air x K j i w h e))
              (turned-back p c w (elim (and_cases (eqb own i) (eqb p w.send && eqb c w.copy) (or_parts (is_take_of i w.send w.copy x) (was_taken K i w.send w.copy) h.untaken).0) [
                | inl f ↦ absurd (let t = (and_parts (eqb own i) _ y).0 in cc)
                | inr g ↦ g
              ]))
        ];
      })
      | inr n ↦ subst (IsQueue air (x ∷ K) j i) (sym (cond-false (eqb own i && is_from (sent_at K p) j) (without p c old) old n)) (record {
        ordered = q.ordered;
        holds = λ w h. waits-more air x K j i w (q.holds w h) (apart n w (q.holds w h));
        whole = λ w h. elim (sent-less x K w.send h.sent h.from.here) [
          | inl a ↦ absurd (let e = a.1 in cc)
          | inr e ↦ q.whole w (waits-less air x K j i w h e)
        ];
      })
    ]
  where
    x : Entry
    x = Take own p c good

    old : List Waiting
    old = waiting air K j i

    apart : (eqb own i && is_from (sent_at K p) j) ≡ false → (w : Waiting) → IsWaiting air K j i w → is_take_of i w.send w.copy x ≡ false
    apart n w h = elim (and_cases (eqb own i) (is_from (sent_at K p) j) n) [
      | inl a ↦ and_left _ _ a
      | inr b ↦ and_right (eqb own i) _ (and_left (eqb p w.send) _ (ne_eqb p w.send (λ e.
          let f : is_from (sent_at K p) j ≡ true = ap (λ o. is_from o j) (ap (sent_at K) e ∙ h.from.here) ∙ eq-eqb _ _ h.from.sender in
          let z : true ≡ false = sym f ∙ b in absurd (cc))))
    ]

pub is-queue : (air : Air) → IsSound air → (K : List Entry) → IsLegal air K → (j i : ℕ) → IsQueue air K j i (waiting air K j i)
is-queue air sound [] l j i = record { ordered = tt; holds = λ w h. absurd h; whole = λ w h. absurd (let e = h.from.here in cc) }
is-queue air sound (Commit own cycle cells ∷ K) l j i =
    let q = is-queue air sound K (earlier l) j i in
    let x = Commit own cycle cells in
    record {
      ordered = q.ordered;
      holds = λ w h. waits-more air x K j i w (q.holds w h) refl;
      whole = λ w h. elim (sent-less x K w.send h.sent h.from.here) [
        | inl a ↦ absurd (let e = a.1 in cc)
        | inr e ↦ q.whole w (waits-less air x K j i w h e)
      ];
    }
is-queue air sound (Send own target number word ∷ K) l j i = after-send air sound K (earlier l) own target number word j i (is-queue air sound K (earlier l) j i)
is-queue air sound (Take own p c good ∷ K) l j i = after-take air K own p c good j i (is-queue air sound K (earlier l) j i)
