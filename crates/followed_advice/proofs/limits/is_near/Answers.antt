use Rattle.std.proofs.Common.{◌≡◌, ◌∷◌, [], List, arith, refl, sym, subst, true≢false}
use Rattle.flight.specs.declared.place.Place.{Place}
use Rattle.leg_rows.specs.Rows.{AreLegRates, rates_from}
use Rattle.followed_advice.proofs.limits.is_near.Goals as goal

pub returns-in-Some : goal.returns-in-Some
returns-in-Some c =
    let places : List Place = c.args.here.now ∷ c.args.there.now ∷ [] in
    let first = c.in-Some.ensures.first in
    let one : c.in-Some.field-0 ≡ 1 = omega (arith, first.begun, first.in_run) in
    (λ t. absurd (true≢false (sym t)), λ rates. absurd (first.excess (subst (λ k. AreLegRates (rates_from places k)) (sym one) rates)))

pub returns-in-None : goal.returns-in-None
returns-in-None c = (λ t. c.in-None.ensures.none refl 1 (omega arith) (omega arith), λ rates. refl)
