-- What own aircraft brings into each of its views.
use Rattle.std.specs.Prelude.{Bool, true, ℤ, pos, ◌-ℤ◌, int_lt, slice_index_or, IfSome, Option, Some, None}
use Rattle.std.specs.Option.{option_map_or}
use Rattle.acas_base.specs.declared.craft.Kind.{Kind}
use Rattle.acas_base.specs.declared.craft.Kind.TheVariants.{Ra, Ta, Xpdr}
use Rattle.acas_base.specs.declared.level.Level.{Level}
use Rattle.acas_base.specs.declared.level.Row.{Row}
use Rattle.acas_base.specs.declared.setting.Profile.{Profile}
use Rattle.craft_view.specs.Sight.{Sight}
use Rattle.craft_view.specs.declared.own.OwnAircraft.{OwnAircraft}
use Rattle.sens_table.specs.Above.{above_of, level_of}
use Rattle.sens_table.specs.Levels.{IsLevel, IsTableRow}
use Rattle.sens_table.specs.declared.above.Above.{Above}

-- The thresholds of a resolution advisory: those of the level, for an aircraft that gives such advisories. Level 2
-- alone has none.
abbrev pub resolution_row : Option Kind → Level → Option Row
resolution_row None level = None
resolution_row (Some Ra) level = level.ra
resolution_row (Some Ta) level = None
resolution_row (Some Xpdr) level = None

-- An aircraft may climb where it has no ceiling or is below it.
abbrev pub may_climb : Option ℤ → ℤ → Bool
may_climb ceiling altitude = option_map_or (int_lt altitude) ceiling true

-- Own altitude as measured in the newest cycle, in ft.
abbrev pub newest_altitude : Sight → ℤ
newest_altitude s = slice_index_or s.own 0 (pos 0)

-- The bounds that own aircraft is above in the newest cycle.
abbrev pub bounds_above : Sight → Above
bounds_above s = above_of s.profile s.elevation s.own

-- What follows from the profile, own kind and ceiling, the bounds that own aircraft is above, own altitude, and the
-- elevation of the ground, both in ft.
abbrev pub own_at : Profile → Option Kind → Option ℤ → Above → ℤ → ℤ → OwnAircraft
own_at profile kind ceiling above altitude elevation = record {
  profile = profile;
  level = level_of above;
  resolution = resolution_row kind (level_of above);
  climbs = may_climb ceiling altitude;
  descends = above.descends;
  descends_faster = above.descends_faster;
  height = altitude -ℤ elevation;
}

unfoldable pub own_of : Sight → OwnAircraft
own_of s = own_at s.profile s.kind s.ceiling (bounds_above s) (newest_altitude s) s.elevation

-- Its level and its thresholds are those of a table.
pub record AreRows (own : OwnAircraft) : Type 0 where
  pub level : IsLevel own.level
  pub resolution : IfSome own.resolution IsTableRow
