-- What a view says in profile 2, which has what version 7.1 has, as far as public sources tell (FAA, Introduction to TCAS
-- II v7.1; ICAO Annex 10, volume IV; Munoz et al. 2013; the details are this project's). Lengths are in 1/1024 ft, rates
-- in 1/1024 ft/s.
use Rattle.std.specs.Prelude.{ℕ, ◌*◌, ◌/◌, Bool, not, ◌&&◌, ◌||◌, if◌then◌else◌, ℤ, pos, neg_ℤ, ◌-ℤ◌, int_le, int_lt, nat_le, unsigned_abs}
use Rattle.acas_base.specs.declared.advisory.Sense.{Sense}
use Rattle.acas_base.specs.declared.advisory.Sense.TheVariants.{Up, Down}
use Rattle.acas_base.specs.declared.advisory.Strength.TheVariants.{Positive}
use Rattle.acas_base.specs.declared.choice.BySense.{BySense}
use Rattle.acas_base.specs.declared.level.Row.{Row}
use Rattle.acas_base.specs.declared.setting.Profile.TheVariants.{Two}
use Rattle.craft_view.specs.Separations.{apart, halves_to, kept_after, later_response, separation}
use Rattle.craft_view.specs.declared.motion.Motion.{Motion}
use Rattle.craft_view.specs.declared.own.OwnAircraft.{OwnAircraft}
use Rattle.miss_test.specs.Miss.{grows, is_far, opens}
use Rattle.tau_test.specs.RangeTest.{halves_by_modified_tau, is_range_hit}
use Rattle.vert_test.specs.AltTest.{is_altitude_hit}
use Rattle.vert_test.specs.Passing.{is_slow, passes_close, with_tau}
use Rattle.vert_test.specs.declared.passing.Approach.{Approach}

-- The height of the other aircraft over own, and its rate.
abbrev pub height_of : Motion → ℤ
height_of m = m.target.est -ℤ m.own.est

abbrev pub height_rate_of : Motion → ℤ
height_rate_of m = m.target.rate -ℤ m.own.rate

-- The range test: that of profile 1, and the pair doesn't open.
abbrev pub holds_in_range : OwnAircraft → Motion → Row → Bool
holds_in_range own m row = not (opens own.level.product m.square) && is_range_hit m.range.est m.range.rate row

-- The half-seconds to the closest approach. Once the square grows it is now or past, and nothing is projected.
abbrev pub halves_left : Motion → Row → ℕ
halves_left m row = if grows m.square then 0 else halves_to m.range row

abbrev pub nearer_halves : Motion → Row → ℕ
nearer_halves m row = if grows m.square then 0 else halves_by_modified_tau m.range.est m.range.rate row

abbrev pub approach_to : Motion → Row → Approach
approach_to m row = record { halves = halves_left m row; nearer = nearer_halves m row }

-- The thresholds of the altitude test. Where own aircraft is slow, the reduced time takes the place of tau.
abbrev pub row_by_speed : OwnAircraft → Motion → Row → Row
row_by_speed own m row = if is_slow m.own.rate m.target.rate then with_tau own.level.slow_tau row else row

-- The altitude test of a resolution advisory.
abbrev pub holds_in_altitude : OwnAircraft → Motion → Row → Bool
holds_in_altitude own m row = is_altitude_hit (height_of m) (height_rate_of m) (row_by_speed own m row) && passes_close (height_of m) (height_rate_of m) (approach_to m row) row

-- The distance of the filter is DMOD, in ft.
abbrev pub passes_far : Motion → Row → Bool
passes_far m row = is_far (unsigned_abs row.dmod / 1024) m.square

-- Both tests hold, and the pair doesn't pass far away.
abbrev pub threatens : OwnAircraft → Motion → Row → Bool
threatens own m row = holds_in_range own m row && (not (passes_far m row) && holds_in_altitude own m row)

-- 100 ft and 200 ft.
abbrev pub hundred_feet : ℤ
hundred_feet = pos 102400

abbrev pub two_hundred_feet : ℤ
two_hundred_feet = pos 204800

-- A sense leads through the other's altitude where own aircraft is at least 100 ft on the wrong side of it.
abbrev pub crosses_at : ℤ → BySense
crosses_at gap = record { up = int_le gap (neg_ℤ hundred_feet); down = int_le hundred_feet gap }

-- Little time is left, and it isn't past.
abbrev pub is_soon : OwnAircraft → ℕ → Bool
is_soon own halves = nat_le 1 halves && nat_le halves (2 * unsigned_abs own.level.increase_tau)

-- An advisory of a sense may increase where little time is left and Positive gives less than 200 ft.
abbrev pub hurries_in : OwnAircraft → Motion → ℕ → Sense → Bool
hurries_in own m halves sense = is_soon own halves && int_lt (separation Two m halves later_response sense Positive) two_hundred_feet

abbrev pub hurries_at : OwnAircraft → Motion → ℕ → BySense
hurries_at own m halves = record { up = hurries_in own m halves Up; down = hurries_in own m halves Down }

-- How far a sense has the two apart at the closest approach if both keep their rates.
abbrev pub held : Motion → ℕ → Sense → ℤ
held m halves sense = apart sense (kept_after m.own halves) (kept_after m.target halves)

-- Both climb with at least 600 ft/min, or both descend so.
abbrev pub go_together : ℤ → ℤ → Bool
go_together a b = (int_le (pos 10240) a && int_le (pos 10240) b) || (int_le a (neg_ℤ (pos 10240)) && int_le b (neg_ℤ (pos 10240)))

-- An advisory of a sense is in a vertical chase where at least 4 s are left, both go together, and the sense has them less
-- than 100 ft apart if both keep their rates.
abbrev pub chases_in : Motion → ℕ → Sense → Bool
chases_in m halves sense =
    nat_le 8 halves && (go_together m.own.rate m.target.rate && int_lt (held m halves sense) hundred_feet)

abbrev pub chases_at : Motion → ℕ → BySense
chases_at m halves = record { up = chases_in m halves Up; down = chases_in m halves Down }

-- The tests of a traffic advisory.
abbrev pub shows_traffic : OwnAircraft → Motion → Bool
shows_traffic own m = holds_in_range own m own.level.ta && is_altitude_hit (height_of m) (height_rate_of m) own.level.ta
