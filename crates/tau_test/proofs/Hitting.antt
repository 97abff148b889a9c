-- The truth value of the test.
use Rattle.std.proofs.Common.{IsTrue, ℤ, rules}
use Rattle.std.specs.Prelude.{◌↔◌}
use Rattle.acas_base.specs.declared.level.Row.{Row}
use Rattle.tau_test.specs.RangeTest.{IsRangeHit, is_range_hit}

pub hits-range : (r rdot : ℤ) (row : Row) → IsTrue (is_range_hit r rdot row) ↔ IsRangeHit r rdot row
unfolding is_range_hit
hits-range r rdot row = search rules
