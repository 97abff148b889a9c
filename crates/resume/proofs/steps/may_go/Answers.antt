use Rattle.std.proofs.Common.{◌≡◌, ℕ, Bool, true, false, not, List, Option, Some, None, MatchOption, is_some, subst}
use Rattle.std.specs.Prelude.{MatchBool}
use Rattle.std.proofs.lemmas.Bool.{MatchBool-at_true}
use Rattle.acas_base.specs.Encounter.{Parts}
use Rattle.acas_base.specs.declared.entry.Entry.{Entry}
use Rattle.air_journal.specs.Airs.{air_of}
use Rattle.air_journal.specs.Calls.{Hinders, IsFree}
use Rattle.air_journal.specs.declared.answers.Commit.{Commit}
use Rattle.air_rules.specs.Air.{Air, is_active}
use Rattle.air_rules.specs.Journal.{commits}
use Rattle.resume.proofs.Stepping.{goes, held-waits}
use Rattle.resume.proofs.steps.may_go.Goals as goal
use Rattle.resume.specs.Steps.{HasToWait, IsSomeAhead, MayGo}

by-hindrance : (air : Air) (K : List Entry) (own : ℕ) → is_active air own ≡ true → IsSomeAhead air K (commits K own) → (o : Option Commit) (r : Bool) → is_some o ≡ not r →
    MatchOption o (IsFree air K own) (Hinders air K own) → MatchBool r (MayGo air K own) (HasToWait air K own)
by-hindrance air K own a s None true e m = goes air K own a s m
by-hindrance air K own a s None false e m = absurd (cc)
by-hindrance air K own a s (Some h) true e m = absurd (cc)
by-hindrance air K own a s (Some h) false e m = held-waits air K own a s h m

pub returns : goal.returns
returns c =
    let ahead = subst (λ (n : ℕ). IsSomeAhead (air_of c.args.enc.now) c.args.state.now.journal n) c.commits.ensures (MatchBool-at_true _ _ c.if-not-is_some_ahead.false c.is_some_ahead.ensures) in
    by-hindrance (air_of c.args.enc.now) c.args.state.now.journal c.args.own c.requires.slowest.active ahead c.hindrance.result c.is_none.result c.is_none.ensures
    (subst (λ (e : Parts). MatchOption c.hindrance.result (IsFree (air_of e) c.args.state.now.journal c.args.own) (Hinders (air_of e) c.args.state.now.journal c.args.own)) c.requires.same c.hindrance.ensures)
