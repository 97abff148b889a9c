use Rattle.std.proofs.Common.{◌≡◌, ℕ, ◌<◌, length, subst, sym, arith, inl, inr}
use Rattle.std.proofs.lemmas.Bool.{cases_lt}
use Rattle.flight.specs.Flight.{position}
use Rattle.flight.specs.Inside.{IsInBox}
use Rattle.flight.specs.declared.place.Place.{Place}
use Rattle.flight.proofs.flying.inside.Goals as goal

pub returns-then-not-stays_inside : goal.returns-then-not-stays_inside
returns-then-not-stays_inside c =
    let P : Place → Type 0 = λ p. IsInBox p in
    let there : c.loop-craft.craft < length c.args.encounter.now.crafts = rw c.crafts-craft-end.ensures.value at c.loop-craft-test.true in
    (λ e. cc e, λ all. absurd (cc (c.stays_inside.ensures.1 (λ k first last. subst P (sym (c.of.ensures k)) (all c.loop-craft.craft k there first (rw c.cycles.ensures.value at last))), c.if-not-stays_inside.true)))

pub loop-craft-preserved : goal.loop-craft-preserved
loop-craft-preserved c i k order first last =
    let P : Place → Type 0 = λ p. IsInBox p in
    let stays = c.stays_inside.ensures.0 c.if-not-stays_inside.false in
    elim (cases_lt i c.loop-craft.craft) [
      | inl h ↦ c.loop-craft.invariant i k h first last
      | inr h ↦
          let same : c.loop-craft.craft ≡ i = omega arith in
          let P : ℕ → Type 0 = λ n. IsInBox (position c.args.encounter.now n k) in
          subst P same (subst (λ (p : Place). IsInBox p) (c.of.ensures k) (stays k first (rw (← c.cycles.ensures.value) at last)))
    ]
