-- The least whole number of seconds, by one product.
use Rattle.std.proofs.Common.{◌↔◌, ℕ, ◌+◌, ◌*◌, ◌<◌, ◌≤◌, arith, lt_of_mul-lt-mul_right, le_trans, mul-le-mul_right}
use Rattle.std.proofs.lemmas.Grind.{div_ceil_times}
use Rattle.acas_num.specs.Seconds.{need, IsNeed}

pub need-is : (a b : ℕ) → 0 < b → IsNeed a b (need a b)
need-is a b h = let e = div_ceil_times a b h in record {
  enough = e.0;
  least = λ u g.
      let x : need a b * b < (u + 1) * b = omega (arith, g, e.1) in
      let y : need a b < u + 1 = lt_of_mul-lt-mul_right b x in
      omega arith;
}

pub need-le : (a b seconds : ℕ) → 0 < b → (need a b ≤ seconds) ↔ (a ≤ seconds * b)
need-le a b seconds h =
    let n = need-is a b h in
    (λ g. le_trans n.enough (mul-le-mul_right b g), λ g. n.least seconds g)
