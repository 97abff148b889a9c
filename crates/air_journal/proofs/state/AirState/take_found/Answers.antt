use Rattle.std.proofs.Common.{◌≡◌, Bool, true, ◌∷◌, sym, ap, ◌∙◌, subst, arith}
use Rattle.acas_base.specs.declared.entry.Entry.TheVariants as kinds
use Rattle.air_journal.proofs.Adding.{TakeFits, may-take, take-fits, taken-whole}
use Rattle.air_journal.proofs.Bounds.{active-is}
use Rattle.air_journal.specs.Airs.{air_of}
use Rattle.air_journal.specs.Calls.{TookCopy}
use Rattle.air_journal.specs.Found.{WaitsAt}
use Rattle.air_journal.specs.States.{IsWhole, State}
use Rattle.air_rules.specs.Air.{is_active}
use Rattle.air_rules.specs.Rules.{MayTake}
use Rattle.craft_view.specs.Kept.{IsActive}
use Rattle.air_journal.proofs.state.AirState.take_found.Goals as goal
use Rattle.air_journal.proofs.state.AirState.take_found.Goals.{After-len-position, After-take}

active : (c : After-len-position) → is_active (air_of c.self.inside.encounter) c.args.own ≡ true
active c = active-is c.self.inside.encounter c.args.own (subst (λ (s : State). IsActive s.encounter c.args.own) (sym c.self.view_is) c.requires.active)

waits : (c : After-len-position) → WaitsAt (air_of c.self.inside.encounter) c.self.inside.journal.entries c.args.own c.args.found
waits c = subst (λ (s : State). WaitsAt (air_of s.encounter) s.journal c.args.own c.args.found) (sym c.self.view_is) c.requires.waits

fit : (c : After-len-position) → TakeFits c.self.inside.encounter c.self.inside.journal c.self.inside.tables c.args.own c.args.found
fit c = take-fits c.self.invariant.whole c.args.own c.args.found (active c) (waits c)

pub overflow_cast-position : goal.overflow_cast-position
overflow_cast-position c = let f = fit c in omega (arith, f.position, c.len-position.ensures)

pub push_take-requires : goal.push_take-requires
push_take-requires c = (fit (goal.at.push_take-requires c).After-len-position).room

pub take-requires-clause-own : goal.take-requires-clause-own
take-requires-clause-own c = (fit (goal.at.take-requires-clause-own c).After-len-position).own

pub take-requires-clause-sender : goal.take-requires-clause-sender
take-requires-clause-sender c = (fit (goal.at.take-requires-clause-sender c).After-len-position).sender

pub take-requires-clause-place : goal.take-requires-clause-place
take-requires-clause-place c = (fit (goal.at.take-requires-clause-place c).After-len-position).place

whole : (c : After-take) → After-len-position → is_active (air_of c.self.inside.encounter) c.args.own ≡ true → WaitsAt (air_of c.self.inside.encounter) c.self.inside.journal.entries c.args.own c.args.found → IsWhole c.self.inside.encounter c.push_take.new.self c.take.new.self
whole c p a f = taken-whole c.self.invariant.whole c.args.own c.args.found a f
    (record {
      entries = c.push_take.ensures.entries ∙ ap (λ (g : Bool). kinds.Take c.args.own c.args.found.waiting.send c.args.found.waiting.copy g ∷ c.self.inside.journal.entries) c.is_some-good.ensures;
      room = c.push_take.ensures.room;
      crafts = c.push_take.ensures.crafts;
      places = c.push_take.ensures.places;
    }) c.take.ensures

pub invariant_of-self : goal.invariant_of-self
invariant_of-self c = let p = (goal.at.invariant_of-self c).After-len-position in record { usual = c.self.invariant.usual; whole = whole c p (active p) (waits p) }

pub returns-clause-took : goal.returns-clause-took
returns-clause-took c =
    let p = (goal.at.returns-clause-took c).After-len-position in
    subst (λ (s : State). TookCopy (air_of s.encounter) s.journal c.args.own c.args.found.waiting.send c.args.found.waiting.copy c.push_take.new.self.entries c.len-position.result c.is_some-good.result) c.self.view_is
    (record {
      position_is = c.len-position.ensures;
      allowed = subst (λ (g : Bool). MayTake (air_of c.self.inside.encounter) c.self.inside.journal.entries c.args.own c.args.found.waiting.send c.args.found.waiting.copy g) (sym c.is_some-good.ensures)
          (may-take c.self.invariant.whole c.args.own c.args.found (active p) (waits p));
      new_is = c.push_take.ensures.entries;
    })

pub returns-clause-legal : goal.returns-clause-legal
returns-clause-legal c = let p = (goal.at.returns-clause-legal c).After-len-position in (whole c p (active p) (waits p)).is_journal.legal
