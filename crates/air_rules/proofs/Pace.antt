-- How far apart the commits of two aircraft are, and that what is sent plainly is taken.
use Rattle.std.proofs.Common.{◌≡◌, ℕ, ◌+◌, ◌<◌, ◌≤◌, Bool, true, false, ◌&&◌, cond, eqb, List, [], ◌∷◌, length, Option, Some, None, sym, refl, ap, ◌∙◌, subst, subst₂, arith, inl, inr, eqb-true, eq-eqb, ltb, lt-ltb, le-ltb, zero-le, le_refl}
use Rattle.std.proofs.lemmas.Bool.{cond-false, cond-true, cond_both, and_parts, and_from, cases_Bool, not-true, not_from_false}
use Rattle.std.specs.Option.{option_map_or}
use Rattle.acas_base.specs.declared.craft.Kind.TheVariants as kinds
use Rattle.acas_base.specs.Encounter.{is_active_kind, is_ra_kind}
use Rattle.acas_base.specs.Messages.{message_for}
use Rattle.acas_base.specs.Senses.{sense_of}
use Rattle.acas_base.specs.declared.advisory.Cell.{Cell}
use Rattle.acas_base.specs.declared.advisory.Cell.TheVariants.{Clear, Ra, Traffic}
use Rattle.acas_base.specs.declared.advisory.ResMsg.{ResMsg}
use Rattle.acas_base.specs.declared.advisory.Sense.{Sense}
use Rattle.acas_base.specs.declared.advisory.Vrc.{Vrc}
use Rattle.acas_base.specs.declared.craft.Kind.{Kind}
use Rattle.acas_base.specs.declared.entry.Entry.{Entry}
use Rattle.acas_base.specs.declared.entry.Entry.TheVariants.{Commit, Send, Take}
use Rattle.air_rules.proofs.Legal.{allowed, earlier}
use Rattle.air_rules.proofs.Positions.{chosen, sent-within, was-sent-more}
use Rattle.air_rules.proofs.Running.{lasts, owed-message, owed-own, run-sense, run-step, starts, stays}
use Rattle.air_rules.proofs.Settling.{take-tells}
use Rattle.air_rules.specs.Air.{Air, IsMessageOf, IsSound, is_active, is_ra}
use Rattle.air_rules.specs.Journal.{Sent, WasSent, commits, count_of, entries_after, has_sent, is_commit_of, last_cell, sent_at}
use Rattle.air_rules.specs.Owed.{may_owe, owed}
use Rattle.air_rules.specs.Rules.{IsLegal}
use Rattle.air_rules.specs.Runs.{run_began}
use Rattle.air_rules.specs.Takes.{Taken, complement_read, is_from, last_take, read_copy}

-- ---- counting

pub count-yes : (f : Entry → Bool) (x : Entry) (K : List Entry) → f x ≡ true → count_of f (x ∷ K) ≡ count_of f K + 1
count-yes f x K e = cond-true (f x) _ _ e

pub count-no : (f : Entry → Bool) (x : Entry) (K : List Entry) → f x ≡ false → count_of f (x ∷ K) ≡ count_of f K
count-no f x K e = cond-false (f x) _ _ e

pub count-rises : (f : Entry → Bool) (x : Entry) (K : List Entry) → count_of f K ≤ count_of f (x ∷ K)
count-rises f x K = cond_both (f x) (count_of f K + 1) (count_of f K) (λ n. count_of f K ≤ n) (λ _. omega arith) (λ _. le_refl _)

pub count-later : (f : Entry → Bool) (x : Entry) (K : List Entry) (q : ℕ) → count_of f (entries_after (x ∷ K) q) ≤ count_of f (x ∷ entries_after K q)
count-later f x K q = cond_both (ltb q (length K)) (x ∷ entries_after K q) [] (λ L. count_of f L ≤ count_of f (x ∷ entries_after K q)) (λ _. le_refl _) (λ _. zero-le)

pub later-more : (x : Entry) (K : List Entry) (q : ℕ) → q < length K → entries_after (x ∷ K) q ≡ x ∷ entries_after K q
later-more x K q h = cond-true (ltb q (length K)) _ _ (lt-ltb _ _ h)

pub later-none : (x : Entry) (K : List Entry) (q : ℕ) → length K ≤ q → entries_after (x ∷ K) q ≡ []
later-none x K q h = cond-false (ltb q (length K)) _ _ (le-ltb _ _ h)

-- ---- who sends

-- An aircraft with resolution advisories is active.
pub active-ra : (air : Air) (i : ℕ) → is_ra air i ≡ true → is_active air i ≡ true
active-ra air i e = go (air.kind i) e
  where
    go : (k : Option Kind) → option_map_or is_ra_kind k false ≡ true → option_map_or is_active_kind k false ≡ true
    go None e = e
    go (Some kinds.Ra) e = refl
    go (Some kinds.Ta) e = absurd (cc)
    go (Some kinds.Xpdr) e = absurd (cc)

-- What a Send shows.
pub record SendShows (air : Air) (j i : ℕ) (S : Sent) : Type 0 where
  pub sender_ra : is_ra air j ≡ true
  pub receiver_ra : is_ra air i ≡ true
  pub apart : eqb j i ≡ false
  pub message : ResMsg
  pub word_is : S.word ≡ air.word message
  pub of_sender : IsMessageOf air j message

pub send-shows : (air : Air) (K : List Entry) → IsLegal air K → (p j i : ℕ) (S : Sent) → WasSent K p j i S → SendShows air j i S
send-shows air [] l p j i S s = absurd (let e = s.here in cc)
send-shows air (Commit own cycle cells ∷ K) l p j i S s =
    let ih = send-shows air K (earlier l) p j i S in
    elim (chosen (eqb p (length K)) None (sent_at K p) (Some S) s.here) [
      | inl g ↦ absurd (let e = g.1 in cc)
      | inr g ↦ ih (record { here = g.1; sender = s.sender; receiver = s.receiver })
    ]
send-shows air (Send own target number word ∷ K) l p j i S s =
    let ih = send-shows air K (earlier l) p j i S in
    let sent : Sent = record { sender = own; receiver = target; number = number; word = word } in
    elim (chosen (eqb p (length K)) (Some sent) (sent_at K p) (Some S) s.here) [
      | inl g ↦
          let e : sent ≡ S = let f = g.1 in cc in
          let may = allowed l in
          let o : owed air K j i ≡ Some may.message = subst₂ (λ (x y : ℕ). owed air K x y ≡ Some may.message) (ap (λ (x : Sent). x.sender) e ∙ s.sender) (ap (λ (x : Sent). x.receiver) e ∙ s.receiver) may.first_owed.owes in
          let test = (owed-message air K j i may.message o).0 in
          let a = and_parts _ _ test in
          let b = and_parts _ _ a.1 in
          let d = and_parts _ _ b.1 in
          record { sender_ra = a.0; receiver_ra = b.0; apart = not-true _ d.0; message = may.message; word_is = sym (ap (λ (x : Sent). x.word) e) ∙ may.word_is; of_sender = owed-own air K j i may.message o }
      | inr g ↦ ih (record { here = g.1; sender = s.sender; receiver = s.receiver })
    ]
send-shows air (Take own q c good ∷ K) l p j i S s =
    let ih = send-shows air K (earlier l) p j i S in
    elim (chosen (eqb p (length K)) None (sent_at K p) (Some S) s.here) [
      | inl g ↦ absurd (let e = g.1 in cc)
      | inr g ↦ ih (record { here = g.1; sender = s.sender; receiver = s.receiver })
    ]

-- ---- the pace

pub pace : (air : Air) (K : List Entry) → IsLegal air K → (i j : ℕ) → is_active air j ≡ true → commits K i ≤ commits K j + 1
pace air [] l i j a = zero-le
pace air (Commit own cycle cells ∷ K) l i j a =
    let x = Commit own cycle cells in
    let ih : commits K i ≤ commits K j + 1 = pace air K (earlier l) i j a in
    let up : commits K j ≤ commits (x ∷ K) j = count-rises (is_commit_of j) x K in
    elim (cases_Bool (eqb own i)) [
      | inl q ↦
          let e : commits (x ∷ K) i ≡ commits K i + 1 = count-yes (is_commit_of i) x K q in
          let h : commits K i ≤ commits K j = subst (λ (k : ℕ). commits K k ≤ commits K j) (eqb-true own i q) ((allowed l).not_ahead j a) in
          omega arith
      | inr q ↦
          let e : commits (x ∷ K) i ≡ commits K i = count-no (is_commit_of i) x K q in
          omega arith
    ]
pace air (Send own target number word ∷ K) l i j a = pace air K (earlier l) i j a
pace air (Take own p c good ∷ K) l i j a = pace air K (earlier l) i j a

-- ---- what j has not sent yet it still owes

message-there : (c : Cell) (v : Vrc) (b : Bool) (own : ℕ) (t : Sense) → sense_of c ≡ Some t → message_for c v b own ≡ None → ⊥
message-there Clear v b own t s e = cc
message-there Traffic v b own t s e = cc
message-there (Ra it) v b own t s e = cc

-- In a run nothing is owed only where it was sent.
pub sent-in-run : (air : Air) (K : List Entry) (j i : ℕ) (t : Sense) → is_ra air j ≡ true → is_ra air i ≡ true → eqb j i ≡ false →
    sense_of (last_cell K j i) ≡ Some t → owed air K j i ≡ None → has_sent K j i ≡ true
sent-in-run air K j i t rj ri ne s o =
    elim (cases_Bool (has_sent K j i)) [
      | inl h ↦ h
      | inr h ↦
          let all : may_owe air K j i ≡ true =
          and_from _ _ rj (and_from _ _ ri (and_from _ _ (not_from_false _ ne) (not_from_false _ h))) in
          absurd (message-there (last_cell K j i) _ _ _ t s (sym (cond-true _ _ _ all) ∙ o))
    ]

-- After the last Send of a run its aircraft commits once at most.
pub record Behind (K : List Entry) (j i q : ℕ) : Type 0 where
  pub once : commits (entries_after K q) j ≤ 1
  pub none : has_sent K j i ≡ true → commits (entries_after K q) j ≡ 0

pub behind : (air : Air) (K : List Entry) → IsLegal air K → (j i q b : ℕ) (t : Sense) → is_ra air j ≡ true → is_ra air i ≡ true → eqb j i ≡ false →
    run_began K j i t ≡ Some b → b < q → ((p : ℕ) (S : Sent) → WasSent K p j i S → p ≤ q) → Behind K j i q
behind air [] l j i q b t rj ri ne r h up = absurd (cc)
behind air (Commit own cycle cells ∷ K) l j i q b t rj ri ne r h up =
    let x = Commit own cycle cells in
    let less : (p : ℕ) (S : Sent) → WasSent K p j i S → p ≤ q = λ p S s. up p S (was-sent-more x K p j i S s) in
    let ih = λ (o : run_began K j i t ≡ Some b). behind air K (earlier l) j i q b t rj ri ne o h less in
    elim (run-step own cycle cells K j i t b r) [
      | starts e s o f ↦
          let z : commits (entries_after (x ∷ K) q) j ≡ 0 = rw (later-none x K q (omega arith)) refl in
          record { once = omega arith; none = λ _. z }
      | lasts e s o ↦
          let sent : has_sent K j i ≡ true = sent-in-run air K j i t rj ri ne (run-sense K j i t b o) (subst (λ (k : ℕ). owed air K k i ≡ None) e ((allowed l).owes_nothing i)) in
          let z : commits (entries_after K q) j ≡ 0 = (ih o).none sent in
          let y : count_of (is_commit_of j) (x ∷ entries_after K q) ≡ commits (entries_after K q) j + 1 = count-yes (is_commit_of j) x (entries_after K q) (eq-eqb own j e) in
          let w : commits (entries_after (x ∷ K) q) j ≤ count_of (is_commit_of j) (x ∷ entries_after K q) = count-later (is_commit_of j) x K q in
          record { once = omega arith; none = λ n. absurd (let v : false ≡ true = sym (cond-true (eqb own j) false (has_sent K j i) (eq-eqb own j e)) ∙ n in cc) }
      | stays e o ↦
          let y : count_of (is_commit_of j) (x ∷ entries_after K q) ≡ commits (entries_after K q) j = count-no (is_commit_of j) x (entries_after K q) e in
          let w : commits (entries_after (x ∷ K) q) j ≤ count_of (is_commit_of j) (x ∷ entries_after K q) = count-later (is_commit_of j) x K q in
          let a : commits (entries_after K q) j ≤ 1 = (ih o).once in
          record {
            once = omega arith;
            none = λ n. let m : commits (entries_after K q) j ≡ 0 = (ih o).none (sym (cond-false (eqb own j) false (has_sent K j i) e) ∙ n) in omega arith;
          }
    ]
behind air (Send own target number word ∷ K) l j i q b t rj ri ne r h up =
    let x = Send own target number word in
    let less : (p : ℕ) (S : Sent) → WasSent K p j i S → p ≤ q = λ p S s. up p S (was-sent-more x K p j i S s) in
    let ih = behind air K (earlier l) j i q b t rj ri ne r h less in
    let w : commits (entries_after (x ∷ K) q) j ≤ commits (entries_after K q) j = count-later (is_commit_of j) x K q in
    let a : commits (entries_after K q) j ≤ 1 = ih.once in
    record {
      once = omega arith;
      none = λ n. elim (chosen (eqb own j && eqb target i) true (has_sent K j i) true n) [
        | inl g ↦
            let parts = and_parts _ _ g.0 in
            let s : WasSent (x ∷ K) (length K) j i (record { sender = own; receiver = target; number = number; word = word }) =
            record { here = cond-true (eqb (length K) (length K)) _ _ (eq-eqb _ _ refl); sender = eqb-true _ _ parts.0; receiver = eqb-true _ _ parts.1 } in
            rw (later-none x K q (up (length K) _ s)) refl
        | inr g ↦ let m : commits (entries_after K q) j ≡ 0 = ih.none g.1 in omega arith
      ];
    }
behind air (Take own p c good ∷ K) l j i q b t rj ri ne r h up =
    let x = Take own p c good in
    let less : (p : ℕ) (S : Sent) → WasSent K p j i S → p ≤ q = λ p S s. up p S (was-sent-more x K p j i S s) in
    let ih = behind air K (earlier l) j i q b t rj ri ne r h less in
    let w : commits (entries_after (x ∷ K) q) j ≤ commits (entries_after K q) j = count-later (is_commit_of j) x K q in
    let a : commits (entries_after K q) j ≤ 1 = ih.once in
    record { once = omega arith; none = λ n. let m : commits (entries_after K q) j ≡ 0 = ih.none n in omega arith }

-- ---- when the last take was

pub take-time : (air : Air) → IsSound air → (K : List Entry) → IsLegal air K → (i j : ℕ) → is_active air i ≡ true → (T : Taken) → last_take air K i j ≡ Some T →
    commits K j ≤ commits (entries_after K T.send) j + (T.commits + 1)
take-time air sound [] l i j a T e = absurd (cc)
take-time air sound (Commit own cycle cells ∷ K) l i j a T e =
    let x = Commit own cycle cells in
    let q = T.send in
    let ih : commits K j ≤ commits (entries_after K q) j + (T.commits + 1) = take-time air sound K (earlier l) i j a T e in
    let tells = take-tells air sound K (earlier l) i j T e in
    let m : entries_after (x ∷ K) q ≡ x ∷ entries_after K q = later-more x K q (sent-within K q tells.what tells.from.here) in
    rw m (elim (eqb own j) as (λ b. cond b (commits K j + 1) (commits K j) ≤ cond b (commits (entries_after K q) j + 1) (commits (entries_after K q) j) + (T.commits + 1)) [
      | true ↦ omega arith
      | false ↦ ih
    ])
take-time air sound (Send own target number word ∷ K) l i j a T e =
    let x = Send own target number word in
    let q = T.send in
    let ih : commits K j ≤ commits (entries_after K q) j + (T.commits + 1) = take-time air sound K (earlier l) i j a T e in
    let tells = take-tells air sound K (earlier l) i j T e in
    let m : entries_after (x ∷ K) q ≡ x ∷ entries_after K q = later-more x K q (sent-within K q tells.what tells.from.here) in
    rw m ih
take-time air sound (Take own p c good ∷ K) l i j a T e =
    let x = Take own p c good in
    let q = T.send in
    let ih = take-time air sound K (earlier l) i j a T in
    let within = take-tells air sound K (earlier l) i j T in
    elim (chosen (good && (eqb own i && is_from (sent_at K p) j)) _ _ _ e) [
      | inl h ↦
          let t : Taken = record { send = p; vrc = complement_read (read_copy air (sent_at K p) c); commits = commits K i } in
          let f : t ≡ T = let g = h.1 in cc in
          let n : commits K i ≡ T.commits = ap (λ (y : Taken). y.commits) f in
          let u : commits K j ≤ commits K i + 1 = pace air K (earlier l) j i a in
          omega arith
      | inr h ↦
          let tells = within h.1 in
          let m : entries_after (x ∷ K) q ≡ x ∷ entries_after K q = later-more x K q (sent-within K q tells.what tells.from.here) in
          rw m (ih h.1)
    ]
