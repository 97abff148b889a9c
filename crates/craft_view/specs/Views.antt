-- The view of another aircraft, from what may be known alone (FAA, Introduction to TCAS II v7.1; the details are this
-- project's profiles).
use Rattle.std.specs.Prelude.{◌≡◌, ℕ, ◌<◌, ◌≤◌, ◌||◌, if◌then◌else◌, Bool, true, false, pos, ◌-ℤ◌, int_le, is_some, List, Option, None, Some, map, slice_index_or}
use Rattle.std.specs.List.{range_with_len}
use Rattle.std.specs.Option.{option_map_or}
use Rattle.acas_base.specs.Encounter.{Parts}
use Rattle.acas_base.specs.Messages.{has_advisory}
use Rattle.acas_base.specs.Senses.{both, neither}
use Rattle.acas_base.specs.declared.TheConstants.{CRAFTS}
use Rattle.acas_base.specs.declared.advisory.Cell.TheVariants.{Clear}
use Rattle.acas_base.specs.declared.advisory.Cells.{Cells}
use Rattle.acas_base.specs.declared.advisory.Sense.{Sense}
use Rattle.acas_base.specs.declared.advisory.Sense.TheVariants.{Up, Down}
use Rattle.acas_base.specs.declared.choice.BySense.{BySense}
use Rattle.acas_base.specs.declared.level.Row.{Row}
use Rattle.acas_base.specs.declared.setting.Profile.{Profile}
use Rattle.acas_base.specs.declared.setting.Profile.TheVariants as profiles
use Rattle.acas_base.specs.declared.view.Picture.{Picture}
use Rattle.acas_base.specs.declared.view.View.{View}
use Rattle.acas_num.specs.declared.track.TrackState.{TrackState}
use Rattle.craft_view.specs.Hits.{is_hit}
use Rattle.craft_view.specs.Own.{own_of}
use Rattle.craft_view.specs.ProfileTwo as two
use Rattle.craft_view.specs.Separations.{first_response, halves_to, later_response, separations, zeros}
use Rattle.craft_view.specs.Sight.{Other, Sight, sight_of}
use Rattle.craft_view.specs.KnownTracks.{motion_of, own_track, tracks_by}
use Rattle.craft_view.specs.declared.motion.Motion.{Motion}
use Rattle.craft_view.specs.declared.own.OwnAircraft.{OwnAircraft}
use Rattle.craft_view.specs.declared.tracks.Tracks.{Tracks}

-- A view that isn't tested or doesn't resolve.
abbrev pub plain_view : Bool → Bool → Bool → View
plain_view tested traffic resolves = record {
  tested = tested;
  traffic = traffic;
  resolves = resolves;
  threat = false;
  lasts = false;
  far = false;
  climbs = false;
  descends = false;
  descends_faster = false;
  side = Up;
  crosses = neither;
  halves = 0;
  hurries = neither;
  chases = neither;
  settled_at = 0;
  looks_ahead = false;
  alim = pos 0;
  enough = pos 0;
  gap = pos 0;
  rate = pos 0;
  first = zeros;
  later = zeros;
}

-- The view of what isn't there.
abbrev pub no_view : View
no_view = plain_view false false false

-- From an index on, the views say nothing.
abbrev pub SayNothingFrom : ℕ → List View → Type 0
SayNothingFrom first views = (index : ℕ) (d : View) → first ≤ index → index < CRAFTS → slice_index_or views index d ≡ no_view

-- The sense that doesn't cross the other's altitude.
abbrev pub side_of : Motion → Sense
side_of m = if int_le m.target.est m.own.est then Up else Down

-- Each sense but one.
abbrev pub all_but : Sense → BySense
all_but Up = record { up = false; down = true }
all_but Down = record { up = true; down = false }

-- What is said in profile 1, or what is said in profile 2.
abbrev pub in_profile : {X : Type 0} → Profile → X → X → X
in_profile profiles.One first second = first
in_profile profiles.Two first second = second

-- The tests of a traffic advisory hold.
abbrev pub shows_traffic : OwnAircraft → Motion → Bool
shows_traffic own m = in_profile own.profile (is_hit m own.level.ta) (two.shows_traffic own m)

-- In profile 1, a view that is tested and resolves, with the thresholds of a resolution advisory. An advisory goes on as
-- long as one would start. Each may increase, weakens from an age of five cycles on, and is reversed where it can't give
-- ALIM. Each sense but the side crosses the other's altitude.
abbrev pub first_view : OwnAircraft → Motion → Row → View
first_view own m row = record {
  tested = true;
  traffic = is_hit m own.level.ta;
  resolves = true;
  threat = is_hit m row;
  lasts = is_hit m row;
  far = false;
  climbs = own.climbs;
  descends = own.descends;
  descends_faster = own.descends_faster;
  side = side_of m;
  crosses = all_but (side_of m);
  halves = halves_to m.range row;
  hurries = both;
  chases = neither;
  settled_at = 5;
  looks_ahead = false;
  alim = own.level.alim;
  enough = own.level.alim;
  gap = m.own.est -ℤ m.target.est;
  rate = m.own.rate;
  first = separations profiles.One m (halves_to m.range row) first_response;
  later = separations profiles.One m (halves_to m.range row) later_response;
}

-- In profile 2. An advisory goes on as long as the range test holds, whatever the filter says. It may increase where time
-- is short, weakens from an age of ten cycles on and only where Level will do, and is reversed where it can't give 200 ft,
-- or in a chase.
abbrev pub second_view : OwnAircraft → Motion → Row → View
second_view own m row = record {
  tested = true;
  traffic = two.shows_traffic own m;
  resolves = true;
  threat = two.threatens own m row;
  lasts = two.holds_in_range own m row;
  far = two.passes_far m row;
  climbs = own.climbs;
  descends = own.descends;
  descends_faster = own.descends_faster;
  side = side_of m;
  crosses = two.crosses_at (m.own.est -ℤ m.target.est);
  halves = two.halves_left m row;
  hurries = two.hurries_at own m (two.halves_left m row);
  chases = two.chases_at m (two.halves_left m row);
  settled_at = 10;
  looks_ahead = true;
  alim = own.level.alim;
  enough = two.two_hundred_feet;
  gap = m.own.est -ℤ m.target.est;
  rate = m.own.rate;
  first = separations profiles.Two m (two.halves_left m row) first_response;
  later = separations profiles.Two m (two.halves_left m row) later_response;
}

-- The same view with the separations of profile 2 and what follows from them.
abbrev pub with_separations : OwnAircraft → Motion → View → View
with_separations own m view = record view {
  hurries = two.hurries_at own m view.halves;
  first = separations profiles.Two m view.halves first_response;
  later = separations profiles.Two m view.halves later_response;
}

-- A view that is tested and resolves, with the thresholds of a resolution advisory.
abbrev pub resolving_view : OwnAircraft → Motion → Row → View
resolving_view own m row = in_profile own.profile (first_view own m row) (second_view own m row)

-- A tested view resolves where own aircraft has thresholds of a resolution advisory.
abbrev pub tested_view : OwnAircraft → Motion → View
tested_view own m = option_map_or (resolving_view own m) own.resolution (plain_view true (shows_traffic own m) false)

-- The view by own track and the tracks of the other aircraft. It is tested where all of them run.
unfoldable pub view_by : OwnAircraft → TrackState → Tracks → View
view_by own mine tracks = option_map_or (tested_view own) (motion_of mine tracks) (plain_view false false (is_some own.resolution))

-- The view of the aircraft at an index. That of the own place, and of places past the last aircraft, says nothing.
unfoldable pub view_in : Sight → ℕ → View
view_in s index = option_map_or (λ (other : Other). view_by (own_of s) (own_track s) (tracks_by s other.seen)) (s.others index) no_view

-- The view that one aircraft has of another one in a cycle.
abbrev pub view_of : Parts → ℕ → ℕ → ℕ → View
view_of e own target cycle = view_in (sight_of e own cycle) target

-- What an aircraft sees in a cycle.
unfoldable pub picture_of : Parts → ℕ → ℕ → Picture
picture_of e own cycle = record {
  own = own;
  cycle = cycle;
  views = map (λ target. view_of e own target cycle) (range_with_len 0 CRAFTS);
}

-- All of a view but its separations and what follows from them.
abbrev pub outline_of : View → View
outline_of view = record view { hurries = neither; first = zeros; later = zeros }

-- What is shown of a view: its separations too, where they are asked for or there is a threat.
abbrev pub shown : Bool → View → View
shown asked view = if asked || view.threat then view else outline_of view

-- After these cells the separations to the aircraft at an index are asked for, whether it is a threat or not: an advisory
-- against it stands. Without cells all separations are asked for.
abbrev pub asks_for : Option Cells → ℕ → Bool
asks_for None target = true
asks_for (Some before) target = has_advisory (slice_index_or before.list target Clear)

-- What an aircraft sees in a cycle, with the separations that are asked for after these cells.
unfoldable pub picture_after : Option Cells → Parts → ℕ → ℕ → Picture
picture_after before e own cycle = record {
  own = own;
  cycle = cycle;
  views = map (λ target. shown (asks_for before target) (view_of e own target cycle)) (range_with_len 0 CRAFTS);
}
