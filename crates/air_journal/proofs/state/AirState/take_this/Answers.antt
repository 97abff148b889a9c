use Rattle.std.proofs.Common.{◌≡◌, ℕ, ◌<◌, true, false, sym, ap, ◌∙◌, subst, refl}
use Rattle.acas_base.specs.declared.TheConstants.{CRAFTS}
use Rattle.air_journal.proofs.Bounds.{active-is, below-all}
use Rattle.air_journal.proofs.Telling.{are-senders, count-is, not-due, this-waits}
use Rattle.air_journal.specs.Airs.{air_of}
use Rattle.air_journal.specs.Calls.{TookCopy}
use Rattle.air_journal.specs.Found.{IsDueInOne, NotDueInAny, WaitsAt}
use Rattle.air_journal.specs.States.{State}
use Rattle.air_rules.specs.Air.{is_active}
use Rattle.air_rules.specs.Due.{is_due}
use Rattle.air_rules.specs.Journal.{commits}
use Rattle.craft_view.specs.Kept.{IsActive}
use Rattle.air_journal.proofs.state.AirState.take_this.Goals as goal
use Rattle.air_journal.proofs.state.AirState.take_this.Goals.{After-made-made}

active : (c : After-made-made) → is_active (air_of c.self.inside.encounter) c.args.own ≡ true
active c = active-is c.self.inside.encounter c.args.own (subst (λ (s : State). IsActive s.encounter c.args.own) (sym c.self.view_is) c.requires)

own : (c : After-made-made) → c.args.own < CRAFTS
own c = below-all c.self.inside.encounter c.self.invariant.whole.is_journal.valid c.args.own (active c)

count : (c : After-made-made) → c.made-made.result.commits ≡ commits c.self.inside.journal.entries c.args.own
count c = ap (λ m. m.commits) c.made-made.ensures ∙ count-is c.self.invariant.whole c.args.own (own c)

pub find_copy-requires-clause-senders : goal.find_copy-requires-clause-senders
find_copy-requires-clause-senders c =
    let a = (goal.at.find_copy-requires-clause-senders c).After-made-made in
    λ sender waiting h i. are-senders c.self.invariant.whole c.args.own (own a) sender waiting (subst (λ (k : ℕ). sender < k) c.count_of-count.ensures.value h) i

pub returns-in-None-clause-takes : goal.returns-in-None-clause-takes
returns-in-None-clause-takes c =
    let a = (goal.at.returns-in-None-clause-takes c).After-made-made in
    let n = subst (λ (k : ℕ). NotDueInAny c.self.inside.tables c.args.own c.made-made.result.commits c.args.send c.args.copy k) c.count_of-count.ensures.value c.in-None.ensures in
    (subst (λ (s : State). is_due (air_of s.encounter) s.journal c.args.own c.args.send c.args.copy ≡ false) c.self.view_is (not-due c.self.invariant.whole c.args.own c.made-made.result.commits c.args.send c.args.copy (own a) (count a) n), refl)

pub take_found-position-requires-clause-waits : goal.take_found-position-requires-clause-waits
take_found-position-requires-clause-waits c =
    let a = (goal.at.take_found-position-requires-clause-waits c).After-made-made in
    let l = subst (λ (k : ℕ). IsDueInOne c.self.inside.tables c.args.own c.made-made.result.commits c.args.send c.args.copy k c.in-Some.found) c.count_of-count.ensures.value c.in-Some.ensures in
    subst (λ (s : State). WaitsAt (air_of s.encounter) s.journal c.args.own c.in-Some.found) c.self.view_is (this-waits c.self.invariant.whole c.args.own c.made-made.result.commits c.args.send c.args.copy c.in-Some.found (own a) (count a) l)

pub returns-in-Some-clause-takes : goal.returns-in-Some-clause-takes
returns-in-Some-clause-takes c =
    let l = c.in-Some.ensures in
    subst (λ (p : ℕ). TookCopy (air_of c.args.self.now.encounter) c.args.self.now.journal c.args.own p c.args.copy c.take_found-position.new.self.journal c.take_found-position.result.0 c.take_found-position.result.1) l.place.send_is
    (subst (λ (d : ℕ). TookCopy (air_of c.args.self.now.encounter) c.args.self.now.journal c.args.own c.in-Some.found.waiting.send d c.take_found-position.new.self.journal c.take_found-position.result.0 c.take_found-position.result.1) l.place.copy_is c.take_found-position.ensures.took)
