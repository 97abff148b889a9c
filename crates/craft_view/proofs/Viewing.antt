-- The view by the tracks that are kept is the view from what is known.
use Rattle.std.proofs.Common.{◌≡◌, ℕ, zero, suc, ◌≤◌, true, false, Option, Some, None, refl, arith, rules}
use Rattle.std.specs.Prelude.{is_some, slice_get, option_map}
use Rattle.std.specs.Option.{option_map_or}
use Rattle.acas_base.specs.Encounter.{Parts}
use Rattle.acas_base.specs.declared.craft.CraftSpec.{CraftSpec}
use Rattle.acas_num.specs.declared.track.TrackState.{TrackState}
use Rattle.craft_view.specs.KnownTracks.{no_tracks, own_track, tracks_by, tracks_of}
use Rattle.craft_view.specs.Own.{own_at, own_of}
use Rattle.craft_view.specs.Sight.{Other, Sight, known_of, other_craft, sight_of}
use Rattle.craft_view.specs.Views.{no_view, view_by, view_in, view_of}
use Rattle.craft_view.specs.declared.own.OwnAircraft.{OwnAircraft}
use Rattle.craft_view.specs.declared.tracks.Tracks.{Tracks}
use Rattle.flight.specs.Measurement.{own_altitude}
use Rattle.sens_table.specs.Above.{above_of}
use Rattle.sens_table.specs.declared.above.Above.{Above}

pub own-known : (e : Parts) (own cycle : ℕ) (spec : CraftSpec) (above : Above) → slice_get e.crafts own ≡ Some spec → 1 ≤ cycle → above ≡ above_of e.profile e.elevation (sight_of e own cycle).own
    → own_at e.profile (Some spec.kind) spec.ceiling above (own_altitude e own cycle) e.elevation ≡ own_of (sight_of e own cycle)
unfolding own_of
own-known e own zero spec above is begun over = absurd (omega arith)
own-known e own (suc n) spec above is begun over = rw (is, over) refl

pub view-other : (e : Parts) (own cycle index : ℕ) (me : OwnAircraft) (mine : TrackState) (tracks : Tracks) → me ≡ own_of (sight_of e own cycle) → mine ≡ own_track (sight_of e own cycle)
    → tracks ≡ tracks_of (sight_of e own cycle) index → is_some (other_craft e own index) ≡ true → view_by me mine tracks ≡ view_of e own index cycle
unfolding view_in
view-other e own cycle index me mine tracks who where_own following other = by_craft (other_craft e own index) following other
  where
    s : Sight
    s = sight_of e own cycle

    by_craft : (o : Option CraftSpec) → tracks ≡ option_map_or (λ (k : Other). tracks_by (sight_of e own cycle) k.seen) (option_map (known_of e own cycle index) o) no_tracks → is_some o ≡ true
        → view_by me mine tracks ≡ option_map_or (λ (k : Other). view_by (own_of s) (own_track s) (tracks_by (sight_of e own cycle) k.seen)) (option_map (known_of e own cycle index) o) no_view
    by_craft None is some = absurd (search rules)
    by_craft (Some craft) is some = λ i. view_by (who i) (where_own i) (is i)

pub view-none : (e : Parts) (own cycle index : ℕ) → is_some (other_craft e own index) ≡ false → no_view ≡ view_of e own index cycle
unfolding view_in
view-none e own cycle index none = by_craft (other_craft e own index) none
  where
    by_craft : (o : Option CraftSpec) → is_some o ≡ false
        → no_view ≡ option_map_or (λ (k : Other). view_by (own_of (sight_of e own cycle)) (own_track (sight_of e own cycle)) (tracks_by (sight_of e own cycle) k.seen)) (option_map (known_of e own cycle index) o) no_view
    by_craft None is = refl
    by_craft (Some craft) is = absurd (search rules)
