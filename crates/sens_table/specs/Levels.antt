-- Sensitivity levels, as a table of bands (FAA, Introduction to TCAS II v7.1, table of sensitivity levels; the numbers of
-- profile 2 are this project's).
use Rattle.std.specs.Prelude.{◌≡◌, ℕ, ◌*◌, ◌≤◌, ℤ, pos, int_lt, List, [], ◌∷◌, find, unwrap_or, option_map, Option, Some, None, MatchOption}
use Rattle.acas_base.specs.declared.level.Level.{Level}
use Rattle.acas_base.specs.declared.level.Row.{Row}
use Rattle.acas_base.specs.Ranges.{IsBetween}

-- A number of feet, in 1/1024 ft.
abbrev pub feet : ℕ → ℤ
feet n = pos (n * 1024)

-- The thresholds of an advisory: tau in s, DMOD and ZTHR in ft.
abbrev pub row : ℕ → ℕ → ℕ → Row
row tau dmod zthr = record { tau = pos tau; dmod = feet dmod; zthr = feet zthr }

-- A level: its number, its thresholds, and ALIM in ft. The numbers of profile 2 are the reduced time and the time of an
-- increase, in s, and the product, in ft2/s.
abbrev pub level : ℕ → Row → Option Row → ℕ → ℕ → ℕ → ℕ → Level
level sl ta ra alim slow increase product = record {
  sl = sl;
  ta = ta;
  ra = ra;
  alim = feet alim;
  slow_tau = pos slow;
  increase_tau = pos increase;
  product = pos product;
}

-- The levels of the bands, lowest first. Level 7 has two.
abbrev pub level_2 : Level
level_2 = level 2 (row 20 1822 850) None 0 0 0 73835

abbrev pub level_3 : Level
level_3 = level 3 (row 25 2005 850) (Some (row 15 1215 600)) 300 15 13 73835

abbrev pub level_4 : Level
level_4 = level 4 (row 30 2916 850) (Some (row 20 2126 600)) 300 18 18 102631

abbrev pub level_5 : Level
level_5 = level 5 (row 40 4557 850) (Some (row 25 3341 600)) 350 20 20 102631

abbrev pub level_6 : Level
level_6 = level 6 (row 45 6076 850) (Some (row 30 4860 600)) 400 22 24 102631

abbrev pub level_7 : Level
level_7 = level 7 (row 48 7898 850) (Some (row 35 6683 700)) 600 25 26 147671

-- The highest band has no end.
abbrev pub highest : Level
highest = level 7 (row 48 7898 1200) (Some (row 35 6683 800)) 700 25 26 147671

-- A level, and the number of feet at which the next band begins. A lower bound belongs to the higher band.
pub record Band : Type 0 where
  pub end : ℤ
  pub level : Level

abbrev pub band : ℕ → Level → Band
band end level = record { end = pos end; level = level }

-- The two lowest bands, by own height above the ground.
abbrev pub height_bands : List Band
height_bands = band 1000 level_2 ∷ band 2350 level_3 ∷ []

-- The bands above these, by own altitude, up to the highest one.
abbrev pub altitude_bands : List Band
altitude_bands = band 5000 level_4 ∷ band 10000 level_5 ∷ band 20000 level_6 ∷ band 42000 level_7 ∷ []

-- The level of the first band that ends above a number of feet, or the given level above all bands.
abbrev pub level_in : List Band → Level → ℤ → Level
level_in bands above n = unwrap_or (option_map (λ b. b.level) (find (λ b. int_lt n b.end) bands)) above

-- The level at an altitude and a height above the ground. The bands of the height come first.
abbrev pub level_at : ℤ → ℤ → Level
level_at altitude height = level_in height_bands (level_in altitude_bands highest altitude) height

-- Bounds of every row and every level of the table.

-- Tau is at most a minute, DMOD at most 10,000 ft, and ZTHR at most 2,000 ft.
pub record IsTableRow (row : Row) : Type 0 where
  pub tau : IsBetween (pos 1) (pos 60) row.tau
  pub dmod : IsBetween (feet 1) (feet 10000) row.dmod
  pub zthr : IsBetween (feet 1) (feet 2000) row.zthr

-- Level 2 alone has no resolution advisories; ALIM is at most 1,000 ft. The times of profile 2 are at most a minute, and
-- the product is at most 200,000 ft2/s.
pub record IsLevel (level : Level) : Type 0 where
  pub ta : IsTableRow level.ta
  pub ra : MatchOption level.ra (level.sl ≡ 2) (λ row. (3 ≤ level.sl) × IsTableRow row)
  pub alim : IsBetween (pos 0) (feet 1000) level.alim
  pub slow_tau : IsBetween (pos 0) (pos 60) level.slow_tau
  pub increase_tau : IsBetween (pos 0) (pos 60) level.increase_tau
  pub product : IsBetween (pos 0) (pos 200000) level.product
