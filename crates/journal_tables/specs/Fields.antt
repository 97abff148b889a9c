-- Altitudes in tenths of a foot.
use Rattle.std.specs.Prelude.{ℤ, pos, ◌*ℤ◌}
use Rattle.std.specs.Int.{int_div_euclid}

-- An altitude in tenths of a foot, rounded down: as planned, from 1/60 ft, and as modelled, from 1/2048 ft.
abbrev pub planned_tenths : ℤ → ℤ
planned_tenths z = int_div_euclid (pos 10 *ℤ z) (pos 60)

abbrev pub modelled_tenths : ℤ → ℤ
modelled_tenths altitude = int_div_euclid (pos 10 *ℤ altitude) (pos 2048)
