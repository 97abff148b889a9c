-- The tests hold where their seconds are within tau.
use Rattle.std.proofs.Common.{◌≡◌, ℕ, Bool, true, false, refl, sym}
use Rattle.std.specs.Prelude.{◌||◌, ◌&&◌, if◌then◌else◌, nat_le, Some, None, int_le, int_lt, pos, unsigned_abs}
use Rattle.std.specs.Option.{option_map_or}
use Rattle.std.proofs.Math.Dec.{leb-zero}
use Rattle.acas_num.specs.Seconds.{need}
use Rattle.tau_test.specs.RangeTest.{is_range_hit, modified_tau}
use Rattle.test_seconds.specs.Seconds.{AltitudeTestGoesBySeconds, RangeTestGoesBySeconds, altitude_seconds, range_seconds}
use Rattle.vert_test.specs.AltTest.{are_opposite, is_altitude_hit}

-- Near, or closing in time: so many seconds are within tau.
by_cases : (near closing : Bool) (seconds tau : ℕ) →
    (near || (closing && nat_le seconds tau)) ≡ option_map_or (λ s. nat_le s tau) (if near then Some 0 else if closing then Some seconds else None) false
by_cases true closing seconds tau = sym (leb-zero tau)
by_cases false true seconds tau = refl
by_cases false false seconds tau = refl

pub range-goes : RangeTestGoesBySeconds
unfolding is_range_hit range_seconds
range-goes r rdot row = by_cases (int_le r row.dmod) (int_lt rdot (pos 0)) (modified_tau (unsigned_abs r) (unsigned_abs rdot) (unsigned_abs row.dmod)) (unsigned_abs row.tau)

pub altitude-goes : AltitudeTestGoesBySeconds
unfolding is_altitude_hit altitude_seconds
altitude-goes dz dzdot row = by_cases (nat_le (unsigned_abs dz) (unsigned_abs row.zthr)) (are_opposite dz dzdot) (need (unsigned_abs dz) (unsigned_abs dzdot)) (unsigned_abs row.tau)
