-- After a take in time from the present run the senses are opposite.
use Rattle.std.proofs.Common.{◌≡◌, ◌≢◌, ℕ, ◌+◌, ◌<◌, Bool, true, ◌&&◌, eqb, List, [], ◌∷◌, Option, Some, None, is_some, option_and_then, sym, refl, ap, ◌∙◌, subst, inl, inr, eqb-true, ltb, lt-ltb}
use Rattle.std.proofs.lemmas.Bool.{cond-true, and_parts, cases_Bool}
use Rattle.acas_base.specs.Complements.{complement_of, forbidden_sense}
use Rattle.acas_base.specs.Senses.{other_sense}
use Rattle.acas_base.specs.declared.advisory.ResMsg.{ResMsg}
use Rattle.acas_base.specs.declared.advisory.Sense.{Sense}
use Rattle.acas_base.specs.declared.advisory.Sense.TheVariants.{Down, Up}
use Rattle.acas_base.specs.declared.entry.Entry.{Entry}
use Rattle.acas_base.specs.declared.entry.Entry.TheVariants.{Commit, Send, Take}
use Rattle.acas_base.specs.declared.link.CopyPlan.{CopyPlan}
use Rattle.air_rules.proofs.Legal.{allowed, earlier, legal-before, legal-begins}
use Rattle.air_rules.proofs.Positions.{chosen, sent-before, was-sent-more}
use Rattle.air_rules.proofs.Running.{run-sends}
use Rattle.air_rules.proofs.Safety.{Clears, commit-clears}
use Rattle.air_rules.specs.Air.{Air, IsMessageOf, IsSecond, IsSound, copy_plan}
use Rattle.air_rules.specs.Due.{is_copy_due}
use Rattle.air_rules.specs.Journal.{Sent, WasSent, before_last_commit, commits, last_cell, sent_at}
use Rattle.air_rules.specs.Rules.{IsLegal, MayCommit, MayTake}
use Rattle.air_rules.specs.Runs.{run_began}
use Rattle.air_rules.specs.Settled.{IsOppositeByTake}
use Rattle.air_rules.specs.Takes.{Taken, complement_from, complement_read, is_from, lapse, last_take, read_copy, vrc_in_force}

forbidden-for : (t : Sense) → forbidden_sense (complement_of t) ≡ Some t
forbidden-for Up = refl
forbidden-for Down = refl

-- The last commit's cell isn't what was forbidden before it.
pub last-clears : (air : Air) (K : List Entry) → IsLegal air K → (i j : ℕ) → IsSecond air i j → Clears (complement_from air (before_last_commit K i) i j) (last_cell K i j)
last-clears air [] l i j h = λ s e f. cc
last-clears air (Commit own cycle cells ∷ K) l i j h =
    let ih = last-clears air K (earlier l) i j h in
    elim (cases_Bool (eqb own i)) [
      | inl q ↦ rw (q) (commit-clears air K i j cycle cells (subst (λ (x : ℕ). MayCommit air K x cycle cells) (eqb-true own i q) (allowed l)) h)
      | inr q ↦ rw (q) ih
    ]
last-clears air (Send own target number word ∷ K) l i j h = last-clears air K (earlier l) i j h
last-clears air (Take own p c good ∷ K) l i j h = last-clears air K (earlier l) i j h

-- A copy that is read reads as what was sent.
read-word : (air : Air) → IsSound air → (j : ℕ) (S : Sent) (c : ℕ) (m n : ResMsg) → IsMessageOf air j m → S.word ≡ air.word m → read_copy air (Some S) c ≡ Some n → n ≡ m
read-word air sound j S c m n own w e = go (copy_plan air S c) refl e
  where
    go : (o : Option CopyPlan) → copy_plan air S c ≡ o → option_and_then (λ plan. air.read (air.flip S.word plan.mask)) o ≡ Some n → n ≡ m
    go None q f = absurd (cc)
    go (Some plan) q f = sound.apart j S c plan m n own q (subst (λ (x : ℕ). air.read (air.flip x plan.mask) ≡ Some n) w f)

-- What the last good take tells.
pub record TakeTells (air : Air) (K : List Entry) (i j : ℕ) (T : Taken) : Type 0 where
  pub what : Sent
  pub from : WasSent K T.send j i what
  pub same : (m : ResMsg) → IsMessageOf air j m → what.word ≡ air.word m → T.vrc ≡ m.vrc

tells-more : (air : Air) (x : Entry) (K : List Entry) (i j : ℕ) (T : Taken) → TakeTells air K i j T → TakeTells air (x ∷ K) i j T
tells-more air x K i j T t = record { what = t.what; from = was-sent-more x K T.send j i t.what t.from; same = t.same }

tells-take : (air : Air) → IsSound air → (K : List Entry) (i j p c : ℕ) (good : Bool) → MayTake air K i p c good → good ≡ true → is_from (sent_at K p) j ≡ true →
    (n : ℕ) → TakeTells air K i j (record { send = p; vrc = complement_read (read_copy air (sent_at K p) c); commits = n })
tells-take air sound K i j p c good may g f n = go (sent_at K p) refl may.due f (sym may.good_is ∙ g)
  where
    go : (o : Option Sent) → sent_at K p ≡ o → is_copy_due air K o i p c ≡ true → is_from o j ≡ true → is_some (read_copy air o c) ≡ true →
        TakeTells air K i j (record { send = p; vrc = complement_read (read_copy air (sent_at K p) c); commits = n })
    go None q d f r = absurd (cc)
    go (Some S) q d f r =
        record {
          what = S;
          from = record { here = q; sender = eqb-true _ _ f; receiver = eqb-true _ _ (and_parts _ _ d).0 };
          same = λ m own w. rw q (read (read_copy air (Some S) c) r refl m own w);
        }
      where
        read : (o : Option ResMsg) → is_some o ≡ true → read_copy air (Some S) c ≡ o → (m : ResMsg) → IsMessageOf air j m → S.word ≡ air.word m → complement_read o ≡ m.vrc
        read None r e m own w = absurd (cc)
        read (Some a) r e m own w = ap (λ (x : ResMsg). x.vrc) (read-word air sound j S c m a own w e)

pub take-tells : (air : Air) → IsSound air → (K : List Entry) → IsLegal air K → (i j : ℕ) (T : Taken) → last_take air K i j ≡ Some T → TakeTells air K i j T
take-tells air sound [] l i j T e = absurd (cc)
take-tells air sound (Commit own cycle cells ∷ K) l i j T e = tells-more air (Commit own cycle cells) K i j T (take-tells air sound K (earlier l) i j T e)
take-tells air sound (Send own target number word ∷ K) l i j T e = tells-more air (Send own target number word) K i j T (take-tells air sound K (earlier l) i j T e)
take-tells air sound (Take own p c good ∷ K) l i j T e =
    let x = Take own p c good in
    let ih = take-tells air sound K (earlier l) i j T in
    elim (chosen (good && (eqb own i && is_from (sent_at K p) j)) _ _ _ e) [
      | inl h ↦
          let parts = and_parts _ _ h.0 in
          let rest = and_parts _ _ parts.1 in
          tells-more air x K i j T (subst (λ (t : Taken). TakeTells air K i j t) (let f = h.1 in cc)
          (tells-take air sound K i j p c good (subst (λ (k : ℕ). MayTake air K k p c good) (eqb-true own i rest.0) (allowed l)) parts.0 rest.1 (commits K i)))
      | inr h ↦ tells-more air x K i j T (ih h.1)
    ]

-- A take in time of a message of the present run forbids the run's sense.
pub run-forbids : (air : Air) → IsSound air → (K : List Entry) → IsLegal air K → (j i began : ℕ) (t : Sense) → run_began K j i t ≡ Some began →
    (M : List Entry) → IsLegal air M → ((p : ℕ) (S : Sent) → sent_at M p ≡ Some S → sent_at K p ≡ Some S) →
    (T : Taken) → last_take air M i j ≡ Some T → began < T.send → commits M i < T.commits + lapse → forbidden_sense (complement_from air M i j) ≡ Some t
run-forbids air sound K l j i began t r M lm kept T last since in_time =
    let tells = take-tells air sound M lm i j T last in
    let from : WasSent K T.send j i tells.what = record { here = kept T.send tells.what tells.from.here; sender = tells.from.sender; receiver = tells.from.receiver } in
    let sends = run-sends air K l j i T.send began t tells.what r since from in
    let vrc : T.vrc ≡ complement_of t = tells.same sends.message sends.of_sender sends.word_is ∙ sends.vrc_is in
    let in_force_is : complement_from air M i j ≡ T.vrc =
    ap (λ o. vrc_in_force o (commits M i)) last ∙ cond-true (ltb (commits M i) (T.commits + lapse)) T.vrc _ (lt-ltb _ _ in_time) in
    ap forbidden_sense (in_force_is ∙ vrc) ∙ forbidden-for t

-- Two senses that differ are opposite.
pub opposite : (s t : Sense) → s ≢ t → s ≡ other_sense t
opposite Up Up n = absurd (n refl)
opposite Up Down n = refl
opposite Down Up n = refl
opposite Down Down n = absurd (n refl)

pub opposite-by-take : (air : Air) (J : List Entry) → IsSound air → IsLegal air J → IsOppositeByTake air J
opposite-by-take air J sound lj K i j began s t T b second mine theirs row bound since =
    let l = legal-begins air b lj in
    opposite s t (λ same. last-clears air K l i j second t (mine ∙ ap Some same)
    (run-forbids air sound K l j i began t row (before_last_commit K i) (legal-before air K i l) (λ p S. sent-before K i p S) T bound.last since bound.in_time))
