-- The serial journal is legal, and complete where it ends.
use Rattle.std.proofs.Common.{◌≡◌, ◌≢◌, ◌⊎◌, ℕ, ◌+◌, ◌<◌, ◌≤◌, true, false, eqb, List, [], ◌∷◌, length, Option, Some, None, is_some, not, ◌&&◌, sym, refl, ap, ◌∙◌, arith, inl, inr, eqb-true, eq-eqb, ne_eqb}
use Rattle.std.proofs.lemmas.Bool.{cond-false, cond-true, cases_Bool, cases_lt, cases_eq}
use Rattle.acas_base.specs.declared.advisory.Cells.{Cells}
use Rattle.acas_base.specs.declared.entry.Entry.{Entry}
use Rattle.acas_base.specs.declared.entry.Entry.TheVariants.{Commit, Send, Take}
use Rattle.air_rules.proofs.OwnEntries.{depends-on-own, keeps-others}
use Rattle.air_rules.proofs.Pace.{count-no, count-yes, later-more, pace}
use Rattle.air_rules.proofs.Positions.{sent-within}
use Rattle.air_rules.proofs.Searching.{AllBelow, IsFirst, first-of-all}
use Rattle.air_rules.proofs.Waiting.{FirstDueTo, FirstOwing, commits-within, first-due-to, first-owing, owed-within, slowest}
use Rattle.air_rules.specs.Air.{Air, IsSound, copy_plan, is_active}
use Rattle.air_rules.specs.Due.{NobodyIsDue, NothingDue, is_copy_due, is_free}
use Rattle.air_rules.specs.Journal.{Sent, commits, count_of, entries_after, is_commit_of, sends, sent_at, was_taken}
use Rattle.air_rules.specs.Owed.{NobodyOwes, OwesNothing}
use Rattle.air_rules.specs.Rules.{IsComplete, IsLegal, MayCommit, cells_for, empty, extended}
use Rattle.air_rules.specs.Serial.{CommitsNext, IsIdle, IsInOrder, IsSerial, IsSlowest, IsTimeToCommit, IsUneven, followed, started}
use Rattle.air_rules.specs.Takes.{read_copy}

-- ---- an aircraft that waits for nothing still does after another one's commit

nothing-owed : (air : Air) (own cycle : ℕ) (cells : Cells) (K : List Entry) (i : ℕ) → eqb own i ≡ false → OwesNothing air K i → OwesNothing air (Commit own cycle cells ∷ K) i
nothing-owed air own cycle cells K i n owes j =
    let x = Commit own cycle cells in
    let apart : own ≢ i = λ e. let f : false ≡ true = sym n ∙ eq-eqb own i e in cc in
    (depends-on-own air (x ∷ K) K i (keeps-others x K i apart)).owed_is j ∙ owes j

nothing-due : (air : Air) (own cycle : ℕ) (cells : Cells) (K : List Entry) (i : ℕ) → eqb own i ≡ false → NothingDue air K i → NothingDue air (Commit own cycle cells ∷ K) i
nothing-due air own cycle cells K i n none p c =
    let x = Commit own cycle cells in
    elim (cases_eq p (length K)) [
      | inl e ↦ ap (λ o. is_copy_due air (x ∷ K) o i p c) (cond-true (eqb p (length K)) None (sent_at K p) (eq-eqb p (length K) e))
      | inr ne ↦ ap (λ o. is_copy_due air (x ∷ K) o i p c) (cond-false (eqb p (length K)) None (sent_at K p) (ne_eqb p (length K) ne)) ∙ at_sent (sent_at K p) refl (none p c)
    ]
  where
    at_sent : (o : Option Sent) → sent_at K p ≡ o → is_copy_due air K o i p c ≡ false → is_copy_due air (Commit own cycle cells ∷ K) o i p c ≡ false
    at_sent None e f = refl
    at_sent (Some S) e f =
        let x = Commit own cycle cells in
        let same : commits (entries_after (x ∷ K) p) i ≡ commits (entries_after K p) i =
        ap (count_of (is_commit_of i)) (later-more x K p (sent-within K p S e)) ∙ count-no (is_commit_of i) x (entries_after K p) n in
        ap (λ (m : ℕ). eqb S.receiver i && (is_free (copy_plan air S c) m && not (was_taken K i p c))) same ∙ f

-- ---- legal

-- In the middle of a round who has yet to commit owes nothing, and nothing is due to it.
abbrev IsReady : Air → List Entry → Type 0
IsReady air K = (i j : ℕ) → is_active air i ≡ true → is_active air j ≡ true → commits K i < commits K j → OwesNothing air K i × NothingDue air K i

record IsSerialSoFar (air : Air) (K : List Entry) : Type 0 where
  legal : IsLegal air K
  ready : IsReady air K

commit-next : (air : Air) → (K : List Entry) → IsSerialSoFar air K → (own cycle : ℕ) (cells : Cells) → CommitsNext air K own cycle cells → MayCommit air K own cycle cells
commit-next air K so own cycle cells n = go n.time
  where
    go : IsTimeToCommit air K own → MayCommit air K own cycle cells
    go (inl u) =
        let low : commits K own ≤ commits K u.fewer = n.slowest.fewest u.fewer u.active_fewer in
        let high : commits K u.more ≤ air.cycles = commits-within air K so.legal u.more in
        let below : commits K u.fewer < commits K u.more = u.below in
        let is : cycle ≡ commits K own + 1 = n.cycle_is in
        let ready = so.ready own u.more n.slowest.active u.active_more (omega arith) in
        record { active = n.slowest.active; cycle_is = is; in_run = omega arith; owes_nothing = ready.0; nothing_due = ready.1; not_ahead = n.slowest.fewest; cells_are = n.cells_are }
    go (inr (idle, left)) =
        let is : cycle ≡ commits K own + 1 = n.cycle_is in
        record { active = n.slowest.active; cycle_is = is; in_run = omega arith; owes_nothing = idle.nobody_owes own; nothing_due = idle.nobody_is_due own n.slowest.active; not_ahead = n.slowest.fewest; cells_are = n.cells_are }

-- A commit of the serial order leaves those ready that are.
ready-commit : (air : Air) (K : List Entry) → IsSerialSoFar air K → (own cycle : ℕ) (cells : Cells) → CommitsNext air K own cycle cells → IsReady air (Commit own cycle cells ∷ K)
ready-commit air K so own cycle cells n i j ai aj below = elim (cases_Bool (eqb own i)) [
  | inl y ↦ absurd (at_own (eqb-true own i y))
  | inr m ↦ let was = before m in (nothing-owed air own cycle cells K i m was.0, nothing-due air own cycle cells K i m was.1)
]
  where
    x : Entry
    x = Commit own cycle cells

    at_own : own ≡ i → ⊥
    at_own e =
        let mine : commits (Commit own cycle cells ∷ K) i ≡ commits K i + 1 = count-yes (is_commit_of i) (Commit own cycle cells) K (eq-eqb own i e) in
        let pace_is : commits K j ≤ commits K i + 1 = pace air K so.legal j i ai in
        elim (cases_Bool (eqb own j)) [
          | inl y ↦ let f : i ≡ j = sym e ∙ eqb-true own j y in let g : commits (Commit own cycle cells ∷ K) i ≡ commits (Commit own cycle cells ∷ K) j = ap (commits (Commit own cycle cells ∷ K)) f in omega arith
          | inr m ↦ let theirs : commits (Commit own cycle cells ∷ K) j ≡ commits K j = count-no (is_commit_of j) (Commit own cycle cells) K m in omega arith
        ]

    before : eqb own i ≡ false → OwesNothing air K i × NothingDue air K i
    before m = go n.time
      where
        mine : commits (Commit own cycle cells ∷ K) i ≡ commits K i
        mine = count-no (is_commit_of i) (Commit own cycle cells) K m

        go : IsTimeToCommit air K own → OwesNothing air K i × NothingDue air K i
        go (inr (idle, left)) = (idle.nobody_owes i, idle.nobody_is_due i ai)
        go (inl u) = elim (cases_Bool (eqb own j)) [
          | inl y ↦
              let theirs : commits (Commit own cycle cells ∷ K) j ≡ commits K j + 1 = count-yes (is_commit_of j) (Commit own cycle cells) K y in
              let same : commits K own ≡ commits K j = ap (commits K) (eqb-true own j y) in
              let low : commits K own ≤ commits K u.fewer = n.slowest.fewest u.fewer u.active_fewer in
              let up : commits K u.fewer < commits K u.more = u.below in
              so.ready i u.more ai u.active_more (omega (arith, mine))
          | inr o ↦
              let theirs : commits (Commit own cycle cells ∷ K) j ≡ commits K j = count-no (is_commit_of j) (Commit own cycle cells) K o in
              so.ready i j ai aj (omega (arith, mine))
        ]

-- Two aircraft with different numbers of commits are uneven.
uneven : (air : Air) (K : List Entry) (i j : ℕ) → is_active air i ≡ true → is_active air j ≡ true → commits K i < commits K j → IsUneven air K
uneven air K i j ai aj below = record { fewer = i; more = j; active_fewer = ai; active_more = aj; below = below }

serial-so-far : (air : Air) → IsSound air → (K : List Entry) → IsInOrder air K → IsSerialSoFar air K
serial-so-far air sound [] started = record { legal = empty; ready = λ i j ai aj below. absurd (omega arith) }
serial-so-far air sound (Commit own cycle cells ∷ K) (followed o n) =
    let so = serial-so-far air sound K o in
    record { legal = extended so.legal (commit-next air K so own cycle cells n); ready = ready-commit air K so own cycle cells n }
serial-so-far air sound (Send own target number word ∷ K) (followed o n) =
    let so = serial-so-far air sound K o in
    record { legal = extended so.legal n.allowed; ready = λ i j ai aj below. absurd (n.even (uneven air K i j ai aj below)) }
serial-so-far air sound (Take own send copy good ∷ K) (followed o n) =
    let so = serial-so-far air sound K o in
    record { legal = extended so.legal n.allowed; ready = λ i j ai aj below. absurd (n.even (uneven air K i j ai aj below)) }

pub in-order-legal : (air : Air) (J : List Entry) → IsSound air → IsInOrder air J → IsLegal air J
in-order-legal air J sound o = (serial-so-far air sound J o).legal

-- ---- complete where it ends

pub serial-complete : (air : Air) (J : List Entry) → IsSound air → IsSerial air J → IsComplete air J
serial-complete air J sound s = at_slowest (slowest air sound J)
  where
    l : IsLegal air J
    l = in-order-legal air J sound s.in_order

    commit : (k : ℕ) → IsSlowest air J k → IsTimeToCommit air J k → ⊥
    commit k slow time = s.ended (Commit k (commits J k + 1) (cells_for air J k)) (record { slowest = slow; time = time; cycle_is = refl; cells_are = refl })

    at_idle : (k : ℕ) → IsSlowest air J k → IsIdle air J → IsComplete air J
    at_idle k slow idle i ai = elim (cases_lt (commits J k) air.cycles) [
      | inl h ↦ absurd (commit k slow (inr (idle, h)))
      | inr h ↦
          let up : commits J i ≤ air.cycles = commits-within air J l i in
          let down : commits J k ≤ commits J i = slow.fewest i ai in
          record { all_cycles = omega arith; owes_nothing = idle.nobody_owes i }
    ]

    at_takes : (k : ℕ) → IsSlowest air J k → (IsUneven air J → ⊥) → NobodyOwes air J → ((i : ℕ) × FirstDueTo air J i) ⊎ NobodyIsDue air J → IsComplete air J
    at_takes k slow even owes (inl (i, f)) =
        let d = f.holds.due in
        absurd (s.ended (Take i d.send d.copy (is_some (read_copy air (sent_at J d.send) d.copy))) (record {
          even = even;
          nobody_owes = owes;
          allowed = record { active = f.holds.active; due = d.first.due; good_is = refl };
          first = f.before;
          first_due = d.first;
        }))
    at_takes k slow even owes (inr none) = at_idle k slow (record { nobody_owes = owes; nobody_is_due = none })

    at_sends : (k : ℕ) → IsSlowest air J k → (IsUneven air J → ⊥) → ((i : ℕ) × FirstOwing air J i) ⊎ NobodyOwes air J → IsComplete air J
    at_sends k slow even (inl (i, f)) =
        let o = f.holds in
        absurd (s.ended (Send i o.target (sends J i o.target + 1) (air.word o.message)) (record {
          even = even;
          allowed = record {
            active = (owed-within air sound J i o.target o.message o.first.owes).active;
            message = o.message;
            first_owed = o.first;
            number_is = refl;
            word_is = refl;
          };
          first = f.before;
        }))
    at_sends k slow even (inr none) = at_takes k slow even none (first-due-to air sound J)

    ahead : (k j : ℕ) → ((is_active air j ≡ true) × (commits J k < commits J j)) ⊎ (is_active air j ≡ true → commits J j ≤ commits J k)
    ahead k j = elim (cases_Bool (is_active air j)) [
      | inr n ↦ inr (λ a. absurd (let x : false ≡ true = sym n ∙ a in cc))
      | inl a ↦ elim (cases_lt (commits J k) (commits J j)) [ inl h ↦ inl (a, h) | inr h ↦ inr (λ _. h) ]
    ]

    at_level : (k : ℕ) → IsSlowest air J k →
        ((j : ℕ) × IsFirst (λ j. (is_active air j ≡ true) × (commits J k < commits J j)) (λ j. is_active air j ≡ true → commits J j ≤ commits J k) j) ⊎ AllBelow (λ j. is_active air j ≡ true → commits J j ≤ commits J k) air.count →
        IsComplete air J
    at_level k slow (inl (j, f)) = absurd (commit k slow (inl (uneven air J k j slow.active f.holds.0 f.holds.1)))
    at_level k slow (inr none) =
        let even : IsUneven air J → ⊥ = λ u.
        let low : commits J k ≤ commits J u.fewer = slow.fewest u.fewer u.active_fewer in
        let high : commits J u.more ≤ commits J k = none u.more (sound.counted u.more u.active_more) u.active_more in
        let below : commits J u.fewer < commits J u.more = u.below in
        omega arith in
        at_sends k slow even (first-owing air sound J)

    at_slowest : ((k : ℕ) × IsSlowest air J k) ⊎ ((i : ℕ) → is_active air i ≡ true → ⊥) → IsComplete air J
    at_slowest (inr none) = λ i a. absurd (none i a)
    at_slowest (inl (k, slow)) = at_level k slow (first-of-all (λ j. (is_active air j ≡ true) × (commits J k < commits J j)) (λ j. is_active air j ≡ true → commits J j ≤ commits J k) (ahead k) air.count)
