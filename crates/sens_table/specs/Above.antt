-- The bounds that own aircraft is above, with a memory of where it was (FAA, Introduction to TCAS II v7.1; the widths are
-- this project's profile 2).
use Rattle.std.specs.Prelude.{ℕ, Bool, false, ◌&&◌, ◌||◌, if◌then◌else◌, ℤ, pos, ◌+ℤ◌, ◌-ℤ◌, int_le, List, [], ◌∷◌, map}
use Rattle.acas_base.specs.declared.level.Level.{Level}
use Rattle.acas_base.specs.declared.setting.Profile.{Profile}
use Rattle.acas_base.specs.declared.setting.Profile.TheVariants.{One, Two}
use Rattle.sens_table.specs.Levels.{highest, level_2, level_3, level_4, level_5, level_6, level_7}
use Rattle.sens_table.specs.declared.above.Above.{Above}

-- In a later cycle: at least the bound and the width, or above it in the cycle before and at least the bound less the
-- width.
abbrev pub stays_above : ℕ → ℤ → Bool → ℤ → Bool
stays_above width bound was n = int_le (bound +ℤ pos width) n || (was && int_le (bound -ℤ pos width) n)

-- Whether numbers are above a bound. The newest stands first, and there is one for each cycle from cycle 1 on. In cycle 1
-- the number is above the bound where it is at least the bound.
abbrev pub is_above : ℕ → ℤ → List ℤ → Bool
is_above width bound [] = false
is_above width bound (n ∷ []) = int_le bound n
is_above width bound (n ∷ m ∷ earlier) = stays_above width bound (is_above width bound (m ∷ earlier)) n

-- Profile 1 has no memory: with a width of 0 a number is above a bound exactly where it is at least the bound.
abbrev pub width_in : Profile → ℕ → ℕ
width_in One width = 0
width_in Two width = width

-- The heights above ground of an elevation, of altitudes.
abbrev pub heights_over : ℤ → List ℤ → List ℤ
heights_over elevation altitudes = map (λ altitude. altitude -ℤ elevation) altitudes

-- The bounds that own aircraft is above, by all own altitudes, the newest first. Altitudes and elevation are in ft.
unfoldable pub above_of : Profile → ℤ → List ℤ → Above
above_of profile elevation altitudes = record {
  band_2 = is_above (width_in profile 100) (pos 1000) (heights_over elevation altitudes);
  band_3 = is_above (width_in profile 200) (pos 2350) (heights_over elevation altitudes);
  band_4 = is_above (width_in profile 500) (pos 5000) altitudes;
  band_5 = is_above (width_in profile 500) (pos 10000) altitudes;
  band_6 = is_above (width_in profile 500) (pos 20000) altitudes;
  band_7 = is_above (width_in profile 500) (pos 42000) altitudes;
  descends = is_above (width_in profile 100) (pos 1100) (heights_over elevation altitudes);
  descends_faster = is_above (width_in profile 100) (pos 1550) (heights_over elevation altitudes);
}

-- The same one cycle later, at this altitude.
abbrev pub above_after : Profile → ℤ → Above → ℤ → Above
above_after profile elevation above altitude = record {
  band_2 = stays_above (width_in profile 100) (pos 1000) above.band_2 (altitude -ℤ elevation);
  band_3 = stays_above (width_in profile 200) (pos 2350) above.band_3 (altitude -ℤ elevation);
  band_4 = stays_above (width_in profile 500) (pos 5000) above.band_4 altitude;
  band_5 = stays_above (width_in profile 500) (pos 10000) above.band_5 altitude;
  band_6 = stays_above (width_in profile 500) (pos 20000) above.band_6 altitude;
  band_7 = stays_above (width_in profile 500) (pos 42000) above.band_7 altitude;
  descends = stays_above (width_in profile 100) (pos 1100) above.descends (altitude -ℤ elevation);
  descends_faster = stays_above (width_in profile 100) (pos 1550) above.descends_faster (altitude -ℤ elevation);
}

-- The level of the lowest band that own aircraft isn't above, or that of the highest band.
unfoldable pub level_of : Above → Level
level_of above =
    if above.band_2 then
    (if above.band_3 then
    (if above.band_4 then
    (if above.band_5 then
    (if above.band_6 then
    (if above.band_7 then highest
    else level_7)
    else level_6)
    else level_5)
    else level_4)
    else level_3)
    else level_2
