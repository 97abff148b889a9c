use Rattle.std.proofs.Common.{◌≡◌, ◌<◌, true, sym, ap, ◌∙◌, subst}
use Rattle.acas_base.specs.declared.TheConstants.{CRAFTS}
use Rattle.air_journal.proofs.Bounds.{active-is, below-all}
use Rattle.air_journal.proofs.Telling.{all-ordered, count-is, found-first, found-waits, narrowed, none-due, none-narrowed}
use Rattle.air_journal.specs.Airs.{air_of}
use Rattle.air_journal.specs.Calls.{TookCopy}
use Rattle.air_journal.specs.States.{State}
use Rattle.air_rules.specs.Air.{is_active}
use Rattle.air_rules.specs.Due.{IsFirstDue, NothingDue}
use Rattle.air_rules.specs.Journal.{commits}
use Rattle.craft_view.specs.Kept.{IsActive}
use Rattle.air_journal.proofs.state.AirState.take.Goals as goal
use Rattle.air_journal.proofs.state.AirState.take.Goals.{After-made-made}

active : (c : After-made-made) → is_active (air_of c.self.inside.encounter) c.args.own ≡ true
active c = active-is c.self.inside.encounter c.args.own (subst (λ (s : State). IsActive s.encounter c.args.own) (sym c.self.view_is) c.requires)

own : (c : After-made-made) → c.args.own < CRAFTS
own c = below-all c.self.inside.encounter c.self.invariant.whole.is_journal.valid c.args.own (active c)

count : (c : After-made-made) → c.made-made.result.commits ≡ commits c.self.inside.journal.entries c.args.own
count c = ap (λ m. m.commits) c.made-made.ensures ∙ count-is c.self.invariant.whole c.args.own (own c)

pub next_due-requires-clause-ordered : goal.next_due-requires-clause-ordered
next_due-requires-clause-ordered c = λ b hb. all-ordered c.self.invariant.whole c.args.own b (own (goal.at.next_due-requires-clause-ordered c).After-made-made) hb

pub take_found-position-requires-clause-waits : goal.take_found-position-requires-clause-waits
take_found-position-requires-clause-waits c =
    let a = (goal.at.take_found-position-requires-clause-waits c).After-made-made in
    let l = narrowed c.self.invariant.whole c.args.own c.made-made.result.commits c.in-Some.found (own a) c.in-Some.ensures.found in
    found-waits c.self.invariant.whole c.args.own c.made-made.result.commits c.in-Some.found (own a) (count a) l

pub returns-in-None-clause-takes : goal.returns-in-None-clause-takes
returns-in-None-clause-takes c =
    let a = (goal.at.returns-in-None-clause-takes c).After-made-made in
    let n = none-narrowed c.self.invariant.whole c.args.own c.made-made.result.commits c.in-None.ensures.found in
    (subst (λ (s : State). NothingDue (air_of s.encounter) s.journal c.args.own) c.self.view_is (none-due c.self.invariant.whole c.args.own c.made-made.result.commits (own a) (count a) n), ap (λ (s : State). s.journal) c.self.view_is)

pub returns-in-Some-clause-takes : goal.returns-in-Some-clause-takes
returns-in-Some-clause-takes c =
    let a = (goal.at.returns-in-Some-clause-takes c).After-made-made in
    let f = c.in-Some.found in
    let t = c.take_found-position in
    let l = narrowed c.self.invariant.whole c.args.own c.made-made.result.commits f (own a) c.in-Some.ensures.found in
    record {
      send = f.waiting.send;
      copy = f.waiting.copy;
      first = subst (λ (s : State). IsFirstDue (air_of s.encounter) s.journal c.args.own f.waiting.send f.waiting.copy) c.self.view_is (found-first c.self.invariant.whole c.args.own c.made-made.result.commits f (own a) (count a) l);
      took = subst (λ (s : State). TookCopy (air_of s.encounter) s.journal c.args.own f.waiting.send f.waiting.copy t.new.self.journal t.result.0 t.result.1) c.self.view_is t.ensures.took;
    }
