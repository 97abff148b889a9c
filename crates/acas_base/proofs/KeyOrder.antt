-- The order of keys.
use Rattle.std.proofs.Common.{◌≡◌, ℕ, true, false, arith}
use Rattle.std.specs.Prelude.{◌==◌, ◌&&◌}
use Rattle.std.proofs.lemmas.Bool.Decides.{nat_tests}
use Rattle.acas_base.specs.Order.{is_below}

pub below-trans : (a b c d e f g h i : ℕ) → is_below (a, b, c) (d, e, f) ≡ true → is_below (d, e, f) (g, h, i) ≡ true → is_below (a, b, c) (g, h, i) ≡ true
below-trans a b c d e f g h i one two = grind (arith, nat_tests)

pub below-other : (a b c d e f : ℕ) → is_below (a, b, c) (d, e, f) ≡ true → (a == d && (b == e && c == f)) ≡ false
below-other a b c d e f one = grind (arith, nat_tests)

pub above-other : (a b c d e f : ℕ) → is_below (d, e, f) (a, b, c) ≡ true → (a == d && (b == e && c == f)) ≡ false
above-other a b c d e f one = grind (arith, nat_tests)

pub below-else : (a b c d e f : ℕ) → is_below (a, b, c) (d, e, f) ≡ false → (a == d && (b == e && c == f)) ≡ false → is_below (d, e, f) (a, b, c) ≡ true
below-else a b c d e f one two = grind (arith, nat_tests)
