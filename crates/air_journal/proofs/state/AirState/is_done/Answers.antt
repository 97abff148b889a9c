use Rattle.std.proofs.Common.{◌≡◌, ◌<◌, Bool, true, false, not, Option, Some, None, MatchOption, is_some, sym, ap, ◌∙◌, subst, refl, arith, length}
use Rattle.std.specs.Prelude.{IsTrue}
use Rattle.acas_base.specs.declared.TheConstants.{CRAFTS}
use Rattle.air_journal.proofs.Bounds.{few-crafts}
use Rattle.air_journal.proofs.Telling.{count-is, first-owed, owes-nothing}
use Rattle.air_journal.proofs.state.AirState.is_done.Goals as goal
use Rattle.air_journal.specs.Airs.{air_of}
use Rattle.air_journal.specs.States.{State}
use Rattle.air_journal.specs.declared.owing.Owing.{Owing}
use Rattle.air_rules.specs.Journal.{commits}
use Rattle.air_rules.specs.Rules.{IsDone}

none-tells : (o : Option Owing) (b : Bool) (P D : Type 0) (Q : Owing → Type 0) → is_some o ≡ not b → MatchOption o P Q → (P → D) → ((w : Owing) → Q w → D → ⊥) → (IsTrue b → D) × (D → IsTrue b)
none-tells None true P D Q e m f g = (λ _. f m, λ _. refl)
none-tells None false P D Q e m f g = absurd (cc)
none-tells (Some w) true P D Q e m f g = absurd (cc)
none-tells (Some w) false P D Q e m f g = (λ t. absurd (let z : false ≡ true = t in cc), λ d. absurd (g w m d))

pub returns : goal.returns
returns c =
    let h = c.self.invariant.whole in
    let few = few-crafts c.self.inside.encounter h.is_journal.valid in
    let own : c.args.own < length c.self.inside.encounter.crafts = subst (λ (s : State). c.args.own < length s.encounter.crafts) (sym c.self.view_is) c.requires in
    let hi : c.args.own < CRAFTS = omega arith in
    let n : c.made.result.commits ≡ commits c.self.inside.journal.entries c.args.own = ap (λ m. m.commits) c.made.ensures ∙ count-is h c.args.own hi in
    let all : commits c.self.inside.journal.entries c.args.own ≡ c.self.inside.encounter.cycles = omega (arith, c.cycles.ensures.value) in
    none-tells c.first_owed.result c.is_none.result _ (IsDone (air_of c.args.self.now.encounter) c.args.self.now.journal c.args.own) _ c.is_none.ensures c.first_owed.ensures
    (λ none. subst (λ (s : State). IsDone (air_of s.encounter) s.journal c.args.own) c.self.view_is (record { all_cycles = all; owes_nothing = owes-nothing h c.args.own hi none }))
    (λ w f d.
    let d2 = subst (λ (s : State). IsDone (air_of s.encounter) s.journal c.args.own) (sym c.self.view_is) d in
    let o = (first-owed h c.args.own w.target w.message hi f).owes in
    let z : None ≡ Some w.message = sym (d2.owes_nothing w.target) ∙ o in cc)
