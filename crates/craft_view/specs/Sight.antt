-- What an aircraft may know of the air up to a cycle.
use Rattle.std.specs.Prelude.{ℕ, ◌==◌, if◌then◌else◌, ℤ, List, Option, None, option_map, slice_get}
use Rattle.std.specs.Option.{option_and_then}
use Rattle.acas_base.specs.Encounter.{Parts, address_in}
use Rattle.acas_base.specs.Next.{rank_by}
use Rattle.acas_base.specs.declared.advisory.Rank.{Rank}
use Rattle.acas_base.specs.declared.craft.CraftSpec.{CraftSpec}
use Rattle.acas_base.specs.declared.craft.Gains.{Gains}
use Rattle.acas_base.specs.declared.craft.Kind.{Kind}
use Rattle.acas_base.specs.declared.setting.Profile.{Profile}
use Rattle.flight.specs.Measurement.{measurement, newest_first, own_altitude}
use Rattle.flight.specs.declared.measuring.Meas.{Meas}

-- Another aircraft: its kind, the rank towards it, and what was measured of it in each cycle, the newest first.
pub record Other : Type 0 where
  pub kind : Kind
  pub rank : Rank
  pub seen : List (Option Meas)

-- The profile, the gains of the tracks, the elevation of the ground in ft, own kind and ceiling, own altitudes in ft, the
-- newest first, and the others by index. There is none in the own place, nor past the last aircraft.
pub record Sight : Type 0 where
  pub profile : Profile
  pub range : Gains
  pub altitude : Gains
  pub elevation : ℤ
  pub kind : Option Kind
  pub ceiling : Option ℤ
  pub own : List ℤ
  pub others : ℕ → Option Other

-- The aircraft at an index, where it is another one.
abbrev pub other_craft : Parts → ℕ → ℕ → Option CraftSpec
other_craft e own index = if index == own then None else slice_get e.crafts index

-- The address of the aircraft at an index; 0 past the last aircraft.
abbrev pub address_of : Parts → ℕ → ℕ
address_of e index = address_in e.crafts index

-- The rank that an own aircraft has towards the one at an index, where that is another one.
abbrev pub rank_of : Parts → ℕ → ℕ → Option Rank
rank_of e own index = option_map (λ (craft : CraftSpec). rank_by (address_of e own) craft.address craft.kind) (other_craft e own index)

-- What an own aircraft knows of an aircraft at an index.
abbrev pub known_of : Parts → ℕ → ℕ → ℕ → CraftSpec → Other
known_of e own cycle index craft = record {
  kind = craft.kind;
  rank = rank_by (address_of e own) craft.address craft.kind;
  seen = newest_first (measurement e own index) cycle;
}

-- What an own aircraft may know in a cycle.
abbrev pub sight_of : Parts → ℕ → ℕ → Sight
sight_of e own cycle = record {
  profile = e.profile;
  range = e.range;
  altitude = e.altitude;
  elevation = e.elevation;
  kind = option_map (λ (craft : CraftSpec). craft.kind) (slice_get e.crafts own);
  ceiling = option_and_then (λ (craft : CraftSpec). craft.ceiling) (slice_get e.crafts own);
  own = newest_first (own_altitude e own) cycle;
  others = λ index. option_map (known_of e own cycle index) (other_craft e own index);
}
