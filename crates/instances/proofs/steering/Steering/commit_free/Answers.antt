use Rattle.std.proofs.Common.{◌≡◌, ◌+◌, ◌<◌, ◌≤◌, ap, arith, subst, sym, ◌∙◌}
use Rattle.acas_base.specs.declared.TheConstants.{CRAFTS}
use Rattle.air_journal.proofs.Activity.{to-active, told-active}
use Rattle.air_journal.proofs.Bounds.{active-is, below-all}
use Rattle.craft_view.proofs.Looking.{may-look, picture-after, ready-some}
use Rattle.craft_view.specs.Kept.{IsActive}
use Rattle.craft_view.specs.Views.{picture_of}
use Rattle.flight.specs.Flight.{Moment}
use Rattle.instances.proofs.Steered.{seen, seen-more}
use Rattle.instances.specs.Steered.{cycle_of}
use Rattle.instances.proofs.steering.Steering.commit_free.Goals as goal
use Rattle.instances.proofs.steering.Steering.commit_free.Goals.{Else-not-has_looked}

active : (c : Else-not-has_looked) → IsActive c.self.inside.encounter.now c.args.own
active c = to-active c.self.inside.encounter.now c.args.own (told-active c.self.inside.encounter.now c.args.own c.is_active.result c.is_active.ensures ∙ c.if-not-is_active.false)

below : (c : Else-not-has_looked) → c.args.own < CRAFTS
below c = below-all c.self.inside.encounter.now c.cycles.ensures.valid c.args.own (active-is c.self.inside.encounter.now c.args.own (active c))

met : (c : Else-not-has_looked) → seen c.self.inside.surveillance.crafts c.args.own ≡ c.commits-made.result
met c = let looked = c.has_looked.ensures c.if-not-has_looked.false in ap cycle_of looked.there ∙ looked.cycle

pub new-places-requires : goal.new-places-requires
new-places-requires c =
    let left = c.if-made-cycles.false in
    let value = c.cycles.ensures.value in
    let few = c.cycles.ensures.valid.run in
    (omega arith, omega (arith, left, value, few))

pub look-requires-clause-own : goal.look-requires-clause-own
look-requires-clause-own c = below (goal.at.look-requires-clause-own c).Else-not-has_looked

pub look-requires-clause-there : goal.look-requires-clause-there
look-requires-clause-there c =
    let at = (goal.at.look-requires-clause-there c).Else-not-has_looked in
    ready-some c.self.inside.encounter.now (seen c.self.inside.surveillance.crafts) c.self.inside.surveillance.crafts c.args.own (below at) c.self.invariant.looked (active at)

pub look-requires-clause-left : goal.look-requires-clause-left
look-requires-clause-left c =
    let left = c.if-made-cycles.false in
    let value = c.cycles.ensures.value in
    subst (λ (m : Moment). m.cycle ≤ m.encounter.cycles) (sym c.new-places.ensures) (omega (arith, left, value))

pub look-requires-clause-ready : goal.look-requires-clause-ready
look-requires-clause-ready c =
    let at = (goal.at.look-requires-clause-ready c).Else-not-has_looked in
    may-look c.self.inside.encounter.now (seen c.self.inside.surveillance.crafts) c.self.inside.surveillance.crafts c.args.own c.commits-made.result c.new-places.result c.new-places.ensures (below at) c.self.invariant.looked (λ _. met at)

pub commit-requires-clause-picture : goal.commit-requires-clause-picture
commit-requires-clause-picture c = λ _.
    picture-after c.self.inside.encounter.now c.args.own (c.commits-made.result + 1) c.self.inside.surveillance.crafts c.look.new.self.crafts c.look.new.self.picture c.new-places.result c.new-places.ensures c.look.ensures
    ∙ (λ i. picture_of (sym c.self.invariant.encounter i) c.args.own (c.commits-made.ensures i + 1))

pub invariant_of-self : goal.invariant_of-self
invariant_of-self c = record {
  inside = c.self.invariant.inside;
  encounter = c.commit.ensures.encounter ∙ c.self.invariant.encounter;
  looked = seen-more c.self.inside.encounter.now c.self.inside.surveillance.crafts c.look.new.self.crafts c.args.own (c.commits-made.result + 1) c.look.new.self.picture c.new-places.result c.new-places.ensures c.self.invariant.looked c.look.ensures;
}
