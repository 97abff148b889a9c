-- Where nothing is held, lost, repeated or damaged, the senses are opposite once a message of the run was sent.
use Rattle.std.proofs.Common.{◌≡◌, ℕ, suc, ◌+◌, ◌<◌, ◌≤◌, Bool, true, false, ◌&&◌, eqb, List, [], ◌∷◌, length, Option, Some, None, is_some, option_and_then, sym, refl, ap, ◌∙◌, subst, arith, inl, inr, eqb-true, eq-eqb, ne_eqb, le-leb, zero-le, zero, slice_get}
use Rattle.std.proofs.lemmas.Bool.{cond-false, cond-true, and_parts, and_from, and_cases, and_right, or_cases, cases_Bool, not-false}
use Rattle.acas_base.specs.Complements.{forbidden_sense}
use Rattle.acas_base.specs.Encounter.{plain_copy}
use Rattle.acas_base.specs.declared.advisory.Cells.{Cells}
use Rattle.acas_base.specs.declared.advisory.ResMsg.{ResMsg}
use Rattle.acas_base.specs.declared.advisory.Sense.{Sense}
use Rattle.acas_base.specs.declared.entry.Entry.{Entry}
use Rattle.acas_base.specs.declared.entry.Entry.TheVariants.{Commit, Send, Take}
use Rattle.acas_base.specs.declared.link.CopyPlan.{CopyPlan}
use Rattle.air_rules.proofs.Beginnings.{begins-on}
use Rattle.air_rules.proofs.Legal.{allowed, earlier, legal-begins}
use Rattle.air_rules.proofs.Pace.{active-ra, behind, send-shows, take-time}
use Rattle.air_rules.proofs.Positions.{sent-more, sent-within, was-sent-more}
use Rattle.air_rules.proofs.Safety.{commit-clears}
use Rattle.air_rules.proofs.Settling.{opposite, run-forbids}
use Rattle.air_rules.specs.Air.{Air, IsMessageOf, IsSound, copy_plan}
use Rattle.air_rules.specs.Due.{NothingDue, is_copy_due, is_free}
use Rattle.air_rules.specs.Journal.{Begins, Sent, WasSent, commits, entries_after, is_take_of, more, sent_at, was_taken, whole}
use Rattle.air_rules.specs.Rules.{IsLegal, MayCommit, MayTake}
use Rattle.air_rules.specs.Runs.{run_began}
use Rattle.air_rules.specs.Settled.{IsOppositeOnPlainLinks, IsPlainLink, TakesInOrder}
use Rattle.air_rules.specs.Takes.{Taken, complement_from, complement_read, is_from, last_take, read_copy}

-- ---- the premises of a journal hold of what it begins with

sent-begins : {K J : List Entry} → Begins K J → (p j i : ℕ) (S : Sent) → WasSent K p j i S → WasSent J p j i S
sent-begins whole p j i S s = s
sent-begins (more {entry = x} {journal = J} b) p j i S s = was-sent-more x J p j i S (sent-begins b p j i S s)

pub plain-begins : (air : Air) {K J : List Entry} (j i : ℕ) → Begins K J → IsPlainLink air J j i → IsPlainLink air K j i
plain-begins air j i b h p S s = h p S (sent-begins b p j i S s)

pub rising-begins : {K J : List Entry} (i j : ℕ) → Begins K J → TakesInOrder J i j → TakesInOrder K i j
rising-begins i j b h L p c good q d a = h L p c good q d (begins-on b a)

-- ---- what was taken

-- A Take names a Send to the taker.
taken-sent : (air : Air) (K : List Entry) → IsLegal air K → (i p c : ℕ) → was_taken K i p c ≡ true → (S : Sent) × (sent_at K p ≡ Some S)
taken-sent air [] l i p c t = absurd (cc)
taken-sent air (Commit own cycle cells ∷ K) l i p c t =
    let s = taken-sent air K (earlier l) i p c t in (s.0, sent-more (Commit own cycle cells) K p s.0 s.1)
taken-sent air (Send own target number word ∷ K) l i p c t =
    let s = taken-sent air K (earlier l) i p c t in (s.0, sent-more (Send own target number word) K p s.0 s.1)
taken-sent air (Take own q d good ∷ K) l i p c t =
    let x = Take own q d good in
    let ih = taken-sent air K (earlier l) i p c in
    elim (or_cases (is_take_of i p c x) (was_taken K i p c) t) [
      | inl h ↦
          let parts = and_parts _ _ h in
          let e : q ≡ p = eqb-true _ _ (and_parts _ _ parts.1).0 in
          let s = there K own q d (sent_at K q) refl (allowed l).due in
          (s.0, sent-more x K p s.0 (subst (λ (k : ℕ). sent_at K k ≡ Some s.0) e s.1))
      | inr h ↦ let s = ih h in (s.0, sent-more x K p s.0 s.1)
    ]
  where
    there : (K : List Entry) (own q d : ℕ) (o : Option Sent) → sent_at K q ≡ o → is_copy_due air K o own q d ≡ true → (S : Sent) × (sent_at K q ≡ Some S)
    there K own q d None e h = absurd (cc)
    there K own q d (Some S) e h = (S, e)

sent-from-less : (air : Air) (x : Entry) (K : List Entry) → IsLegal air K → (i p c j k : ℕ) (S : Sent) → was_taken K i p c ≡ true → WasSent (x ∷ K) p j k S → WasSent K p j k S
sent-from-less air x K l i p c j k S t s =
    let a = taken-sent air K l i p c t in
    let e : a.0 ≡ S = let f : Some a.0 ≡ Some S = sym (sent-more x K p a.0 a.1) ∙ s.here in cc in
    record { here = a.1 ∙ ap Some e; sender = s.sender; receiver = s.receiver }

-- A Take stands after its Send.
taken-take : (air : Air) (K : List Entry) (own q d : ℕ) (good : Bool) → MayTake air K own q d good → q < length K
taken-take air K own q d good may = go (sent_at K q) refl may.due
  where
    go : (o : Option Sent) → sent_at K q ≡ o → is_copy_due air K o own q d ≡ true → q < length K
    go None e h = absurd (cc)
    go (Some S) e h = sent-within K q S e

later-here : (air : Air) (K : List Entry) (x : Entry) (p : ℕ) (S : Sent) → p < length K → sent_at (x ∷ K) p ≡ Some S → sent_at K p ≡ Some S
later-here air K x p S h e = sym (cond-false (eqb p (length K)) _ _ (ne_eqb p (length K) (omega arith))) ∙ e

-- The last good take is of no earlier message than any that was taken.
pub record Names (air : Air) (K : List Entry) (i j p : ℕ) : Type 0 where
  pub taken : Taken
  pub last : last_take air K i j ≡ Some taken
  pub past : p ≤ taken.send

-- A plain copy is good.
plain-good : (air : Air) → IsSound air → (K : List Entry) → IsLegal air K → (i p c j : ℕ) (good : Bool) → IsPlainLink air K j i → MayTake air K i p c good → is_from (sent_at K p) j ≡ true → good ≡ true
plain-good air sound K l i p c j good plain may f = may.good_is ∙ go (sent_at K p) refl may.due f
  where
    go : (o : Option Sent) → sent_at K p ≡ o → is_copy_due air K o i p c ≡ true → is_from o j ≡ true → is_some (read_copy air o c) ≡ true
    go None q d f = absurd (cc)
    go (Some S) q d f =
        let parts = and_parts _ _ d in
        let from : WasSent K p j i S = record { here = q; sender = eqb-true _ _ f; receiver = eqb-true _ _ parts.0 } in
        let shows = send-shows air K l p j i S from in
        plan_of S (air.copies S.sender S.receiver S.number) (plain p S from) c (and_parts _ _ parts.1).0 shows.message shows.of_sender shows.word_is
      where
        plan_of : (S : Sent) (ps : List CopyPlan) → ps ≡ plain_copy ∷ [] → (c : ℕ) → is_free (slice_get ps c) (commits (entries_after K p) i) ≡ true →
            (m : ResMsg) → IsMessageOf air j m → S.word ≡ air.word m → is_some (option_and_then (λ (plan : CopyPlan). air.read (air.flip S.word plan.mask)) (slice_get ps c)) ≡ true
        plan_of S ps e c h m own w =
            let r : air.read (air.flip S.word 0) ≡ Some m = ap air.read (sound.plain S.word ∙ w) ∙ sound.reads j m own in
            subst (λ (x : List CopyPlan). is_free (slice_get x c) (commits (entries_after K p) i) ≡ true → is_some (option_and_then (λ (plan : CopyPlan). air.read (air.flip S.word plan.mask)) (slice_get x c)) ≡ true) (sym e) (at c r) h
          where
            at : (c : ℕ) → air.read (air.flip S.word 0) ≡ Some m → is_free (slice_get (plain_copy ∷ []) c) (commits (entries_after K p) i) ≡ true →
                is_some (option_and_then (λ (plan : CopyPlan). air.read (air.flip S.word plan.mask)) (slice_get (plain_copy ∷ []) c)) ≡ true
            at zero r h = ap is_some r
            at (suc c) r h = absurd (cc)

pub names : (air : Air) → IsSound air → (K : List Entry) → IsLegal air K → (i j p c : ℕ) (S : Sent) → IsPlainLink air K j i → TakesInOrder K i j → was_taken K i p c ≡ true → WasSent K p j i S → Names air K i j p
names air sound [] l i j p c S plain rising t s = absurd (cc)
names air sound (Commit own cycle cells ∷ K) l i j p c S plain rising t s =
    let x = Commit own cycle cells in
    let n = names air sound K (earlier l) i j p c S (plain-begins air j i (more whole) plain) (rising-begins i j (more whole) rising) t (sent-from-less air x K (earlier l) i p c j i S t s) in
    record { taken = n.taken; last = n.last; past = n.past }
names air sound (Send own target number word ∷ K) l i j p c S plain rising t s =
    let x = Send own target number word in
    let n = names air sound K (earlier l) i j p c S (plain-begins air j i (more whole) plain) (rising-begins i j (more whole) rising) t (sent-from-less air x K (earlier l) i p c j i S t s) in
    record { taken = n.taken; last = n.last; past = n.past }
names air sound (Take own q d good ∷ K) l i j p c S plain rising t s =
    let x = Take own q d good in
    let plain_K = plain-begins air j i (more whole) plain in
    let ih = λ (h : was_taken K i p c ≡ true). names air sound K (earlier l) i j p c S plain_K (rising-begins i j (more whole) rising) h (sent-from-less air x K (earlier l) i p c j i S h s) in
    elim (cases_Bool (eqb own i && is_from (sent_at K q) j)) [
      | inl new ↦
          let parts = and_parts _ _ new in
          let may = subst (λ (k : ℕ). MayTake air K k q d good) (eqb-true own i parts.0) (allowed l) in
          let g : good ≡ true = plain-good air sound K (earlier l) i q d j good plain_K may parts.1 in
          let T : Taken = record { send = q; vrc = complement_read (read_copy air (sent_at K q) d); commits = commits K i } in
          record {
            taken = T;
            last = cond-true (good && (eqb own i && is_from (sent_at K q) j)) (Some T) _ (and_from _ _ g new);
            past = elim (or_cases (is_take_of i p c x) (was_taken K i p c) t) [
              | inl h ↦ let e : q ≡ p = eqb-true q p (and_parts (eqb q p) (eqb d c) (and_parts (eqb own i) _ h).1).0 in omega arith
              | inr h ↦
                  let f = sent-from-less air x K (earlier l) i p c j i S h s in
                  let lt : p < q = rising K q d good p c (subst (λ (k : ℕ). Begins (Take k q d good ∷ K) (x ∷ K)) (eqb-true own i parts.0) whole) parts.1 h
                  (subst (λ (o : Option Sent). is_from o j ≡ true) (sym f.here) (eq-eqb _ _ f.sender)) in
                  omega arith
            ];
          }
      | inr old ↦
          elim (or_cases (is_take_of i p c x) (was_taken K i p c) t) [
            | inl h ↦
                let parts = and_parts _ _ h in
                let e : q ≡ p = eqb-true _ _ (and_parts _ _ parts.1).0 in
                let within = taken-take air K own q d good (allowed l) in
                let here : sent_at K q ≡ Some S = subst (λ (k : ℕ). sent_at K k ≡ Some S) (sym e) (later-here air K x p S (subst (λ (k : ℕ). k < length K) e within) s.here) in
                let yes : eqb own i && is_from (sent_at K q) j ≡ true = and_from _ _ parts.0 (subst (λ (o : Option Sent). is_from o j ≡ true) (sym here) (eq-eqb _ _ s.sender)) in
                absurd (let f : false ≡ true = sym old ∙ yes in cc)
            | inr h ↦
                let n = ih h in
                record { taken = n.taken; last = cond-false (good && (eqb own i && is_from (sent_at K q) j)) _ _ (and_right _ _ old) ∙ n.last; past = n.past }
          ]
    ]

-- ---- at a commit each message of a plain link was taken

all-taken : (air : Air) (K : List Entry) (i j p : ℕ) (S : Sent) → IsPlainLink air K j i → NothingDue air K i → WasSent K p j i S → was_taken K i p 0 ≡ true
all-taken air K i j p S plain due s =
    let e : is_copy_due air K (Some S) i p 0 ≡ false = subst (λ (o : Option Sent). is_copy_due air K o i p 0 ≡ false) s.here (due p 0) in
    let f : is_free (copy_plan air S 0) (commits (entries_after K p) i) ≡ true =
    subst (λ (x : List CopyPlan). is_free (slice_get x 0) (commits (entries_after K p) i) ≡ true) (sym (plain p S s)) (le-leb 0 _ zero-le) in
    elim (and_cases _ _ e) [
      | inl h ↦ absurd (let g : false ≡ true = sym h ∙ eq-eqb S.receiver i s.receiver in cc)
      | inr h ↦ elim (and_cases _ _ h) [
        | inl g ↦ absurd (let k : false ≡ true = sym g ∙ f in cc)
        | inr g ↦ not-false _ g
      ]
    ]

pub commit-forbids : (air : Air) → IsSound air → (K : List Entry) → IsLegal air K → (i j cycle : ℕ) (cells : Cells) → MayCommit air K i cycle cells →
    IsPlainLink air K j i → TakesInOrder K i j → (began p : ℕ) (t : Sense) (S : Sent) → run_began K j i t ≡ Some began → WasSent K p j i S → began < p → forbidden_sense (complement_from air K i j) ≡ Some t
commit-forbids air sound K l i j cycle cells may plain rising began p t S run s since =
    let shows = send-shows air K l p j i S s in
    let first = names air sound K l i j p 0 S plain rising (all-taken air K i j p S plain may.nothing_due s) s in
    let T = first.taken in
    let up : (r : ℕ) (Q : Sent) → WasSent K r j i Q → r ≤ T.send = λ r Q f.
    let n = names air sound K l i j r 0 Q plain rising (all-taken air K i j r Q plain may.nothing_due f) f in
    let e : T ≡ n.taken = let g : Some T ≡ Some n.taken = sym first.last ∙ n.last in cc in
    subst (λ (y : Taken). r ≤ y.send) (sym e) n.past in
    let past : p ≤ T.send = first.past in
    let once : commits (entries_after K T.send) j ≤ 1 = (behind air K l j i T.send began t shows.sender_ra shows.receiver_ra shows.apart run (omega arith) up).once in
    let time : commits K j ≤ commits (entries_after K T.send) j + (T.commits + 1) = take-time air sound K l i j (active-ra air i shows.receiver_ra) T first.last in
    let ahead : commits K i ≤ commits K j = may.not_ahead j (active-ra air j shows.sender_ra) in
    run-forbids air sound K l j i began t run K l (λ q Q e. e) T first.last (omega arith) (omega arith)

pub opposite-on-plain-links : (air : Air) (J : List Entry) → IsSound air → IsLegal air J → IsOppositeOnPlainLinks air J
opposite-on-plain-links air J sound lj i j second plain rising K cycle began p cells s t S b mine run from since =
    let l = legal-begins air b lj in
    let bk : Begins K J = begins-on b (more whole) in
    opposite s t (λ same. commit-clears air K i j cycle cells (allowed l) second t (mine ∙ ap Some same)
    (commit-forbids air sound K (earlier l) i j cycle cells (allowed l) (plain-begins air j i bk plain) (rising-begins i j bk rising) began p t S run from since))
