use Rattle.std.proofs.Common.{◌≡◌, ◌<◌, ◌≤◌, false, eqb, ap, sym, ◌∙◌, subst, arith, length, slice_index_or}
use Rattle.std.proofs.lemmas.Bool.{cond_both}
use Rattle.acas_base.specs.Encounter.{most_crafts}
use Rattle.acas_base.specs.declared.TheConstants.{CRAFTS}
use Rattle.flight.proofs.Missing.{none-covers}
use Rattle.flight.specs.Flight.{Moment}
use Rattle.flight.specs.Measurement.{is_missed}
use Rattle.flight.proofs.places.Places.is_missed.Goals as goal

pub returns-else-self-from : goal.returns-else-self-from
returns-else-self-from c =
    let e = c.self.inside.encounter.now in
    let own = c.args.own in
    let cycle = c.self.inside.cycle in
    let there : own < length e.crafts = subst (λ (m : Moment). own < length m.encounter.crafts) (sym c.self.view_is) c.requires in
    let few = c.valid_law.ensures.crafts.few in
    let most : most_crafts e.version ≤ CRAFTS = cond_both (eqb e.version 1) 8 CRAFTS (λ n. n ≤ CRAFTS) (λ _. omega arith) (λ _. omega arith) in
    let within : own < CRAFTS = omega (arith, few, most) in
    let off = ap (λ n. slice_index_or c.self.inside.missing n false) (sym c.from.ensures) ∙ c.if-self-from.false in
    let none = none-covers e.misses own c.args.target cycle (sym (c.self.invariant.2 own within) ∙ off) in
    c.if-self-from.false ∙ subst (λ (m : Moment). false ≡ is_missed m.encounter own c.args.target m.cycle) c.self.view_is (sym none)
