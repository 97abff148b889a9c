-- The truth value of the test.
use Rattle.std.proofs.Common.{IsTrue, ℤ, rules}
use Rattle.std.specs.Prelude.{◌↔◌}
use Rattle.acas_base.specs.declared.level.Row.{Row}
use Rattle.vert_test.specs.AltTest.{IsAltHit, is_altitude_hit}

pub hits-altitude : (dz dzdot : ℤ) (row : Row) → IsTrue (is_altitude_hit dz dzdot row) ↔ IsAltHit dz dzdot row
unfolding is_altitude_hit
hits-altitude dz dzdot row = search rules
