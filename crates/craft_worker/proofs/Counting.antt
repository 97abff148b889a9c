-- How the calls of a seat change the number of its aircraft's commits, and what it owes.
use Rattle.std.proofs.Common.{◌≡◌, ℕ, ◌+◌, List, refl, sym, ap, ◌∙◌, subst, arith, eq-eqb}
use Rattle.std.proofs.lemmas.Bool.{cond-true}
use Rattle.acas_base.specs.Encounter.{Parts}
use Rattle.acas_base.specs.declared.entry.Entry.{Entry}
use Rattle.air_journal.specs.Airs.{air_of}
use Rattle.air_journal.specs.Calls.{Commits, Sends, Takes}
use Rattle.air_journal.specs.declared.answers.Commit.{Commit}
use Rattle.air_journal.specs.declared.answers.Commit.TheVariants as commit
use Rattle.air_journal.specs.declared.answers.Sent.{Sent}
use Rattle.air_journal.specs.declared.answers.Sent.TheVariants as sent
use Rattle.air_journal.specs.declared.answers.Took.{Took}
use Rattle.air_journal.specs.declared.answers.Took.TheVariants as took
use Rattle.air_rules.specs.Air.{Air}
use Rattle.air_rules.specs.Journal.{commits, entries_of}
use Rattle.air_rules.specs.Owed.{OwesNothing, owed}
use Rattle.air_rules.proofs.OwnEntries.{depends-on-own}
use Rattle.air_turn.specs.Seats.{CommitsIn, SeatState, SendsIn, TakesIn}
use Rattle.air_turn.specs.Turns.{commit_growth}

module _ (air : Air) (own : ℕ) (old new : List Entry) where
  after-commit : (answer : Commit) → Commits air old own new answer → commits new own ≡ commits old own + commit_growth answer
  after-commit commit.Over h = ap (λ J. commits J own) h.1 ∙ omega arith
  after-commit (commit.Owed target) h = ap (λ J. commits J own) h.1 ∙ omega arith
  after-commit (commit.Due send copy) h = ap (λ J. commits J own) h.1 ∙ omega arith
  after-commit (commit.Ahead craft count) h = ap (λ J. commits J own) h.1 ∙ omega arith
  after-commit (commit.Done position) h = ap (λ J. commits J own) h.new_is ∙ cond-true _ _ _ (eq-eqb own own refl)

  after-send : (answer : Sent) → Sends air old own new answer → commits new own ≡ commits old own
  after-send sent.Nothing h = ap (λ J. commits J own) h.1
  after-send (sent.Done position) h = ap (λ J. commits J own) h.new_is

  after-take : (answer : Took) → Takes air old own new answer → commits new own ≡ commits old own
  after-take took.Nothing h = ap (λ J. commits J own) h.1
  after-take (took.Done position good) h = ap (λ J. commits J own) h.took.new_is

  owed-after-take : (answer : Took) → Takes air old own new answer → (other : ℕ) → owed air new own other ≡ owed air old own other
  owed-after-take took.Nothing h other = ap (λ J. owed air J own other) h.1
  owed-after-take (took.Done position good) h other = ap (λ J. owed air J own other) h.took.new_is

-- Only a commit that was made counts.
pub no-growth : (answer : Commit) → ((at : ℕ) → answer ≡ commit.Done at → ⊥) → commit_growth answer ≡ 0
no-growth commit.Over not = refl
no-growth (commit.Owed target) not = refl
no-growth (commit.Due send copy) not = refl
no-growth (commit.Ahead craft count) not = refl
no-growth (commit.Done at) not = absurd (not at refl)

-- What a call sees has the commits that its seat had seen.
same-commits : (s : SeatState) (journal : List Entry) → entries_of s.front s.own ≡ entries_of journal s.own → commits s.front s.own ≡ commits journal s.own
same-commits s journal same = (depends-on-own (air_of s.encounter) s.front journal s.own same).commits_are

module _ (s t : SeatState) where
  pub commits-then : (answer : Commit) → CommitsIn s answer t → commits t.front t.own ≡ commits s.front s.own + commit_growth answer
  commits-then answer c =
      ap (commits t.front) c.same.own ∙ (after-commit (air_of s.encounter) s.own c.journal t.front answer c.does ∙ ap (λ n. n + commit_growth answer) (sym (same-commits s c.journal c.sees.own)))

  pub sends-then : (answer : Sent) → SendsIn s answer t → commits t.front t.own ≡ commits s.front s.own
  sends-then answer c = ap (commits t.front) c.same.own ∙ (after-send (air_of s.encounter) s.own c.journal t.front answer c.does ∙ sym (same-commits s c.journal c.sees.own))

  pub takes-then : (answer : Took) → TakesIn s answer t → commits t.front t.own ≡ commits s.front s.own
  takes-then answer c = ap (commits t.front) c.same.own ∙ (after-take (air_of s.encounter) s.own c.journal t.front answer c.does ∙ sym (same-commits s c.journal c.sees.own))

  -- A seat that finds nothing to send owes nothing.
  pub nothing-then : (e : Parts) → s.encounter ≡ e → SendsIn s sent.Nothing t → OwesNothing (air_of e) t.front t.own
  nothing-then e is c =
      subst (λ (z : Parts). OwesNothing (air_of z) t.front t.own) is
      (subst (λ own. OwesNothing (air_of s.encounter) t.front own) (sym c.same.own) (subst (λ J. OwesNothing (air_of s.encounter) J s.own) (sym c.does.1) c.does.0))
