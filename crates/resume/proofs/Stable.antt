-- What an entry of one aircraft leaves as it was for the others.
use Rattle.std.proofs.Common.{◌≡◌, ◌≢◌, ℕ, ◌<◌, ◌≤◌, Bool, true, false, not, ◌&&◌, ◌||◌, eqb, List, ◌∷◌, length, Option, Some, None, sym, refl, ap, ◌∙◌, arith, inl, inr, eq-eqb, ne_eqb}
use Rattle.std.proofs.lemmas.Bool.{cond-false, cond-true, and_left, cases_eq, false_from_ne_true}
use Rattle.acas_base.specs.declared.advisory.Cells.{Cells}
use Rattle.acas_base.specs.declared.entry.Entry.{Entry}
use Rattle.acas_base.specs.declared.entry.Entry.TheVariants.{Commit, Take}
use Rattle.air_rules.proofs.OwnEntries.{leaves-others}
use Rattle.air_rules.proofs.Pace.{active-ra, count-no, later-more}
use Rattle.air_rules.proofs.Positions.{sent-within}
use Rattle.air_rules.specs.Air.{Air, copy_plan, is_active, is_ra}
use Rattle.air_rules.specs.Due.{is_copy_due, is_due, is_free}
use Rattle.air_rules.specs.Journal.{Sent, as_sent, commits, entries_after, has_sent, is_commit_of, is_take_of, owner_of, sent_at, was_taken}
use Rattle.air_rules.specs.Owed.{OwesNothing, owed}

-- ---- owed

pub owed-other : (air : Air) (x : Entry) (K : List Entry) (i j : ℕ) → owner_of x ≢ i → owed air (x ∷ K) i j ≡ owed air K i j
owed-other air x K i j ne = (leaves-others air x K i ne).owed_is j

pub owed-take : (air : Air) (K : List Entry) (own p c : ℕ) (good : Bool) (i j : ℕ) → owed air (Take own p c good ∷ K) i j ≡ owed air K i j
owed-take air K own p c good i j = refl

-- ---- due

sent-past : (K : List Entry) (p : ℕ) → length K ≤ p → sent_at K p ≡ None
sent-past K p h = go (sent_at K p) refl
  where
    go : (o : Option Sent) → sent_at K p ≡ o → sent_at K p ≡ None
    go None e = e
    go (Some S) e = absurd (let w : p < length K = sent-within K p S e in omega arith)

sent-same : (x : Entry) (K : List Entry) (p : ℕ) → as_sent x ≡ None → sent_at (x ∷ K) p ≡ sent_at K p
sent-same x K p e = elim (cases_eq p (length K)) [
  | inl q ↦ cond-true (eqb p (length K)) (as_sent x) (sent_at K p) (eq-eqb _ _ q) ∙ e ∙ sym (sent-past K p (omega arith))
  | inr ne ↦ cond-false (eqb p (length K)) (as_sent x) (sent_at K p) (ne_eqb _ _ ne)
]

due-same : (air : Air) (x : Entry) (K : List Entry) (i p c : ℕ) → as_sent x ≡ None → is_commit_of i x ≡ false → is_take_of i p c x ≡ false → is_due air (x ∷ K) i p c ≡ is_due air K i p c
due-same air x K i p c n m t = ap (λ o. is_copy_due air (x ∷ K) o i p c) (sent-same x K p n) ∙ go (sent_at K p) refl
  where
    go : (o : Option Sent) → sent_at K p ≡ o → is_copy_due air (x ∷ K) (sent_at K p) i p c ≡ is_copy_due air K (sent_at K p) i p c
    go None e = ap (λ o. is_copy_due air (x ∷ K) o i p c) e ∙ sym (ap (λ o. is_copy_due air K o i p c) e)
    go (Some S) e =
        let w : p < length K = sent-within K p S e in
        let l : commits (entries_after (x ∷ K) p) i ≡ commits (entries_after K p) i = ap (λ L. commits L i) (later-more x K p w) ∙ count-no (is_commit_of i) x (entries_after K p) m in
        let k : was_taken (x ∷ K) i p c ≡ was_taken K i p c = ap (λ b. b || was_taken K i p c) t in
        ap (λ o. is_copy_due air (x ∷ K) o i p c) e
        ∙ ap (λ z. eqb S.receiver i && (is_free (copy_plan air S c) z && not (was_taken (x ∷ K) i p c))) l
        ∙ ap (λ b. eqb S.receiver i && (is_free (copy_plan air S c) (commits (entries_after K p) i) && not b)) k
        ∙ sym (ap (λ o. is_copy_due air K o i p c) e)

pub due-commit : (air : Air) (K : List Entry) (own cycle : ℕ) (cells : Cells) (i p c : ℕ) → own ≢ i → is_due air (Commit own cycle cells ∷ K) i p c ≡ is_due air K i p c
due-commit air K own cycle cells i p c ne = due-same air (Commit own cycle cells) K i p c refl (ne_eqb own i ne) refl

pub due-take : (air : Air) (K : List Entry) (own q d : ℕ) (good : Bool) (i p c : ℕ) → own ≢ i → is_due air (Take own q d good ∷ K) i p c ≡ is_due air K i p c
due-take air K own q d good i p c ne = due-same air (Take own q d good) K i p c refl refl (and_left (eqb own i) _ (ne_eqb own i ne))

-- ---- the aircraft that make no entries

pub inactive-owes : (air : Air) (K : List Entry) (i : ℕ) → is_active air i ≡ false → OwesNothing air K i
inactive-owes air K i a j = cond-false (is_ra air i && (is_ra air j && (not (eqb i j) && not (has_sent K i j)))) _ _ (and_left (is_ra air i) _ not_ra)
  where
    not_ra : is_ra air i ≡ false
    not_ra = false_from_ne_true _ (λ r. let z : false ≡ true = sym a ∙ active-ra air i r in cc)
