-- What an aircraft sees of another one in a cycle, from what it may know alone.
use Rattle.std.specs.Prelude.{ℕ, None, slice_index_or}
use Rattle.std.specs.Option.{option_and_then, option_map_or}
use Rattle.acas_base.specs.declared.advisory.Rank.TheVariants.{Free}
use Rattle.craft_view.specs.KnownTracks.{motion_of, own_track, tracks_of}
use Rattle.craft_view.specs.Own.{newest_altitude, own_of}
use Rattle.craft_view.specs.Sight.{Other, Sight}
use Rattle.craft_view.specs.Views.{view_in}
use Rattle.reasons.specs.declared.seen.OwnSide.{OwnSide}
use Rattle.reasons.specs.declared.seen.Seen.{Seen}

-- Own altitude in ft, the sensitivity level, and what own aircraft brings into its views.
unfoldable pub own_side_of : Sight → OwnSide
own_side_of s = record {
  altitude = newest_altitude s;
  level = (own_of s).level.sl;
  aircraft = own_of s;
}

-- The rank against the aircraft at an index, what was measured of it in the newest cycle, own side, what the tracks say
-- where the pair is tested, and the view.
unfoldable pub seen_of : Sight → ℕ → Seen
seen_of s other = record {
  rank = option_map_or (λ (o : Other). o.rank) (s.others other) Free;
  reply = option_and_then (λ (o : Other). slice_index_or o.seen 0 None) (s.others other);
  own = own_side_of s;
  motion = motion_of (own_track s) (tracks_of s other);
  view = view_in s other;
}
