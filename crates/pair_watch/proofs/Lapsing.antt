-- The cause that is told holds.
use Rattle.std.proofs.Common.{◌≡◌, ◌≢◌, ℕ, ◌+◌, ◌<◌, ◌≤◌, ◌&&◌, Bool, true, false, cond, eqb, List, [], ◌∷◌, length, Option, Some, None, is_some, refl, sym, ap, ◌∙◌, subst, arith, inl, inr, eq-eqb, ne_eqb, lt-ltb, le-ltb}
use Rattle.std.specs.Prelude.{nat_lt}
use Rattle.std.proofs.lemmas.Bool.{cases_lt, cond-false, cond-true}
use Rattle.acas_base.specs.Senses.{sense_of}
use Rattle.acas_base.specs.declared.advisory.Cells.{Cells}
use Rattle.acas_base.specs.declared.advisory.Sense.{Sense}
use Rattle.acas_base.specs.declared.entry.Entry.{Entry}
use Rattle.acas_base.specs.declared.entry.Entry.TheVariants.{Commit}
use Rattle.air_rules.proofs.Beginnings.{begins-length}
use Rattle.air_rules.proofs.Changes.{equal-untold}
use Rattle.air_rules.proofs.Legal.{legal-before, legal-begins}
use Rattle.air_rules.proofs.Positions.{sent-before}
use Rattle.air_rules.proofs.Running.{has-run-by-sense}
use Rattle.air_rules.proofs.Settling.{take-tells}
use Rattle.air_rules.specs.Air.{Air, IsSound}
use Rattle.air_rules.specs.Journal.{Begins, as_sent, before_last_commit, commits, last_cell, more, sent_at, whole}
use Rattle.air_rules.specs.Priority.{HasEqualSenses}
use Rattle.air_rules.specs.Rules.{IsLegal}
use Rattle.air_rules.specs.Runs.{run_began}
use Rattle.air_rules.specs.Takes.{Taken, lapse, last_take}
use Rattle.journal_reader.specs.Reading.{present_run}
use Rattle.pair_watch.proofs.Steps.{Agree, agree, present-is}
use Rattle.pair_watch.proofs.Watched.{gives-way}
use Rattle.pair_watch.specs.Causes.{HasTaken, HasTrueCauses, IsCause}
use Rattle.pair_watch.specs.Watching.{cause_by, is_watched}
use Rattle.pair_watch.specs.declared.pair.Cause.TheVariants.{Old, Lapsed}

-- A commit is no send.
unsent : (own cycle : ℕ) (cells : Cells) (before K : List Entry) → Begins (Commit own cycle cells ∷ before) K → sent_at K (length before) ≡ None
unsent own cycle cells before K whole = cond-true (eqb (length before) (length before)) None (sent_at before (length before)) (eq-eqb (length before) (length before) refl)
unsent own cycle cells before K (more {entry = x} {journal = M} b) =
    let longer : length (Commit own cycle cells ∷ before) ≤ length M = begins-length (Commit own cycle cells ∷ before) M b in
    cond-false (eqb (length before) (length M)) (as_sent x) (sent_at M (length before)) (ne_eqb (length before) (length M) (omega arith)) ∙ unsent own cycle cells before M b

some-is : (o : Option ℕ) → is_some o ≡ true → (n : ℕ) × (o ≡ Some n)
some-is None e = absurd (cc)
some-is (Some n) e = (n, refl)

by-take : (air : Air) (J : List Entry) → IsSound air → IsLegal air J → (K : List Entry) (low high began : ℕ) (sense : Sense) → Begins K J → HasEqualSenses air K high low sense began →
    (taken : Taken) → HasTaken air K low high taken began → IsCause air K low high (cause_by (Some taken) (Some began))
by-take air J sound lj K low high began sense b equal taken is = elim (cases_lt taken.send began) [
  | inl h ↦ subst (IsCause air K low high) (sym (cond-true (nat_lt taken.send began) Old Lapsed (lt-ltb taken.send began h))) (record { taken = taken; began = began; last = is; before_run = h })
  | inr h ↦
      (let within = legal-before air K high (legal-begins air b lj) in
      let tells = take-tells air sound (before_last_commit K high) within high low taken is.last in
      let sent = sent-before K high taken.send tells.what tells.from.here in
      let run = has-run-by-sense.began K low high sense began equal.run in
      let no_send : sent_at K began ≡ None = subst (λ (n : ℕ). sent_at K n ≡ None) run.position (unsent low run.cycle run.cells run.before K run.commit) in
      let apart : began ≢ taken.send = λ same. (let f : sent_at K began ≡ Some tells.what = ap (sent_at K) same ∙ sent in let g : None ≡ Some tells.what = sym no_send ∙ f in cc) in
      let later : began < taken.send = omega arith in
      let lapsed : taken.commits + lapse ≤ commits (before_last_commit K high) high = elim (equal-untold air J sound lj K high low began sense taken b equal is.last) [ inl early ↦ absurd (omega arith) | inr late ↦ late ] in
      subst (IsCause air K low high) (sym (cond-false (nat_lt taken.send began) Old Lapsed (le-ltb taken.send began h))) (record { taken = taken; began = began; last = is; in_run = later; lapsed = lapsed }))
]

pub true-causes : (air : Air) (J : List Entry) → IsSound air → IsLegal air J → HasTrueCauses air J
true-causes air J sound lj K low high sense b watched equal =
    subst (λ (run : Option ℕ). IsCause air K low high (cause_by (last_take air (before_last_commit K high) high low) run)) (sym run)
    (go (last_take air (before_last_commit K high) high low) refl)
  where
    both : Agree (last_cell K high low) (last_cell K low high) sense
    both = agree (last_cell K high low) (last_cell K low high) sense equal

    there : (n : ℕ) × (run_began K low high sense ≡ Some n)
    there = some-is (run_began K low high sense) ((has-run-by-sense.there K low high sense).0 both.low_has)

    run : present_run K low high ≡ Some there.0
    run = present-is K low high sense both.low_has ∙ there.1

    same : HasEqualSenses air K high low sense there.0
    same = record { second = gives-way air low high watched; mine = both.high_has; theirs = both.low_has; run = there.1 }

    go : (o : Option Taken) → last_take air (before_last_commit K high) high low ≡ o → IsCause air K low high (cause_by o (Some there.0))
    go None e = e
    go (Some taken) e = by-take air J sound lj K low high there.0 sense b same taken (record { last = e; run = run })
