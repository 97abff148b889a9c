-- On a leg between two places in the box.
use Rattle.std.proofs.Common.{ℕ, suc, ◌*◌, ◌≤◌, ℤ, pos, negsuc, ◌+ℤ◌, ◌*ℤ◌, arith, mul-le-mul_left}
use Rattle.std.proofs.lemmas.Int.{ints}
use Rattle.acas_base.specs.Ranges.{IsBetween}
use Rattle.acas_base.specs.declared.craft.Leg.{Leg}
use Rattle.flight.specs.Bounds.{flown}
use Rattle.flight.specs.Inside.{IsInBox}
use Rattle.flight.specs.declared.place.Place.{Place}

between-one : (low high a v : ℤ) (n m : ℕ) → n ≤ m → IsBetween low high a → IsBetween low high (a +ℤ (v *ℤ pos m)) → IsBetween low high (a +ℤ (v *ℤ pos n))
between-one low high a (pos w) n m order here there =
    let less : w * n ≤ w * m = mul-le-mul_left w order in
    (omega (arith, ints, less, here.0, here.1, there.0, there.1), omega (arith, ints, less, here.0, here.1, there.0, there.1))
between-one low high a (negsuc w) n m order here there =
    let less : suc w * n ≤ suc w * m = mul-le-mul_left (suc w) order in
    (omega (arith, ints, less, here.0, here.1, there.0, there.1), omega (arith, ints, less, here.0, here.1, there.0, there.1))

pub between : (place : Place) (leg : Leg) (n m : ℕ) → n ≤ m → IsInBox place → IsInBox (flown place leg m) → IsInBox (flown place leg n)
between place leg n m order here there = record {
  x = between-one _ _ place.x leg.vx n m order here.x there.x;
  y = between-one _ _ place.y leg.vy n m order here.y there.y;
  z = between-one _ _ place.z leg.vz n m order here.z there.z;
}
