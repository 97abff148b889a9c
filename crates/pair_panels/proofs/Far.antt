-- No two places that aircraft can reach are too far apart to be drawn.
use Rattle.std.proofs.Common.{rules, ◌*◌, ◌<◌, ◌≤◌, ◌^◌, ℤ, ◌-ℤ◌, unsigned_abs, arith, inl, inr}
use Rattle.std.proofs.lemmas.Bool.{cases_lt}
use Rattle.std.proofs.lemmas.Nat.{mul-le}
use Rattle.flight.proofs.Slants.{slant-is}
use Rattle.flight.specs.Bounds.{IsReachable}
use Rattle.flight.specs.Measurement.{distance, slant_range, square}
use Rattle.flight.specs.declared.place.Place.{Place}

small : (a b : ℤ) → unsigned_abs a ≤ 2 ^ 24 → unsigned_abs b ≤ 2 ^ 24 → unsigned_abs (a -ℤ b) ≤ 2 ^ 25
small a b ha hb = search rules

square-small : (a b : ℤ) → unsigned_abs a ≤ 2 ^ 24 → unsigned_abs b ≤ 2 ^ 24 → square (a -ℤ b) ≤ 2 ^ 25 * 2 ^ 25
square-small a b ha hb = let d = small a b ha hb in mul-le (unsigned_abs (a -ℤ b)) (unsigned_abs (a -ℤ b)) (2 ^ 25) (2 ^ 25) d d

pub near : (p q : Place) → IsReachable p → IsReachable q → slant_range p q < 2 ^ 26
near p q here there =
    let r = slant_range p q in
    let within : 3600 * (r * r) ≤ distance p q = (slant-is p q).within in
    let x = square-small p.x q.x (let b = here.x in omega arith) (let b = there.x in omega arith) in
    let y = square-small p.y q.y (let b = here.y in omega arith) (let b = there.y in omega arith) in
    let z = square-small p.z q.z (let b = here.z in omega arith) (let b = there.z in omega arith) in
    elim (cases_lt r (2 ^ 26)) [
      | inl close ↦ close
      | inr far ↦ absurd (let most = mul-le (2 ^ 26) (2 ^ 26) r r far far in omega (arith, within, x, y, z, most))
    ]
