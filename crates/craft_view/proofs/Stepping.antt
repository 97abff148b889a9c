-- From one cycle to the next.
use Rattle.std.proofs.Common.{◌≡◌, ℕ, suc, ◌+◌, ◌<◌, false, ℤ, List, ◌∷◌, map, length, get_or, Option, Some, None, refl, sym, ◌∙◌, ap, rules, IsTrue}
use Rattle.std.specs.Prelude.{option_map, slice_get}
use Rattle.std.specs.Option.{option_map_or}
use Rattle.std.proofs.Math.Numerals.{add-one}
use Rattle.std.proofs.lemmas.Option.{get_or_from_slice_get, slice_get_read, slice_get_within}
use Rattle.acas_base.specs.Encounter.{Parts, is_active}
use Rattle.acas_base.specs.declared.craft.CraftSpec.{CraftSpec}
use Rattle.acas_base.specs.declared.craft.Gains.{Gains}
use Rattle.acas_base.specs.declared.setting.Profile.{Profile}
use Rattle.acas_base.specs.declared.setting.Profile.TheVariants.{One, Two}
use Rattle.acas_num.specs.declared.track.TrackState.{TrackState}
use Rattle.alt_track.specs.AltTrack.{altitude_track}
use Rattle.craft_view.specs.Kept.{IsActive}
use Rattle.craft_view.specs.KnownTracks.{altitude_seen, no_tracks, own_track, range_seen, square_after, square_by, square_seen, tracks_after, tracks_by, tracks_of, tracks_then}
use Rattle.craft_view.specs.Sight.{Other, Sight, known_of, other_craft, sight_of}
use Rattle.craft_view.specs.declared.tracks.Tracks.{Tracks}
use Rattle.flight.specs.Measurement.{measurement, newest_first, own_altitude}
use Rattle.flight.specs.declared.measuring.Meas.{Meas}
use Rattle.range_track.specs.RangeTrack.{range_track}

-- The track of the square of one cycle, after what is measured in the next, is that of the next.
square-suc : (profile : Profile) (own : ℤ) (owns : List ℤ) (meas : Option Meas) (seen : List (Option Meas))
    → square_after profile (square_by profile owns seen) (square_seen own meas) ≡ square_by profile (own ∷ owns) (meas ∷ seen)
square-suc One own owns meas seen = refl
square-suc Two own owns meas seen = refl

-- The tracks of one cycle, after what is measured in the next, are those of the next.
then-suc : (e : Parts) (own cycle index : ℕ) → tracks_then e own (suc cycle) index (tracks_of (sight_of e own cycle) index) ≡ tracks_of (sight_of e own (suc cycle)) index
then-suc e own cycle index = by_craft (other_craft e own index)
  where
    s : Sight
    s = sight_of e own cycle

    by_craft : (o : Option CraftSpec)
        → option_map_or (λ (craft : CraftSpec). tracks_after e (own_altitude e own (suc cycle)) (option_map_or (λ (k : Other). tracks_by s k.seen) (option_map (known_of e own cycle index) o) no_tracks) (measurement e own index (suc cycle))) o
        (option_map_or (λ (k : Other). tracks_by s k.seen) (option_map (known_of e own cycle index) o) no_tracks)
        ≡ option_map_or (λ (k : Other). tracks_by (sight_of e own (suc cycle)) k.seen) (option_map (known_of e own (suc cycle) index) o) no_tracks
    by_craft None = refl
    by_craft (Some craft) =
        let square = square-suc e.profile (own_altitude e own (suc cycle)) s.own (measurement e own index (suc cycle)) (known_of e own cycle index craft).seen in
        let seen = (known_of e own (suc cycle) index craft).seen in
        λ i. record {
          range = range_track e.range (map range_seen seen);
          altitude = altitude_track e.altitude (map altitude_seen seen);
          square = square i;
        }

pub then-next : (e : Parts) (own cycle next index : ℕ) (tracks : Tracks) → next ≡ cycle + 1 → tracks ≡ tracks_of (sight_of e own cycle) index
    → tracks_then e own next index tracks ≡ tracks_of (sight_of e own next) index
then-next e own cycle next index tracks is from =
    let to : next ≡ suc cycle = is ∙ add-one cycle in
    rw (to, from) (then-suc e own cycle index)

-- What is read at an index within a list doesn't depend on what stands for what is past its end.
pub read-or : {X : Type 0} (xs : List X) (i : ℕ) (x d : X) → i < length xs → x ≡ get_or xs i x → get_or xs i x ≡ get_or xs i d
read-or xs i x d within is = sym is ∙ sym (get_or_from_slice_get xs i x d (slice_get_read xs (length xs) i x refl within is))

-- An active aircraft is one of the encounter's.
pub active-within : (e : Parts) (own : ℕ) → IsActive e own → own < length e.crafts
active-within e own h = by_craft (slice_get e.crafts own) refl h
  where
    by_craft : (o : Option CraftSpec) → slice_get e.crafts own ≡ o → IsTrue (option_map_or is_active o false) → own < length e.crafts
    by_craft None is f = absurd (search rules)
    by_craft (Some craft) is f = slice_get_within e.crafts own craft is

-- The track of own altitude goes on by the altitude of the next cycle.
pub own-next : (e : Parts) (own cycle next : ℕ) (before after : TrackState) (feet : ℤ) (gains : Gains) → next ≡ cycle + 1 → gains ≡ e.altitude → feet ≡ own_altitude e own next
    → before ≡ own_track (sight_of e own cycle) → ((ms : List (Option ℤ)) → before ≡ altitude_track gains ms → after ≡ altitude_track gains (Some feet ∷ ms))
    → after ≡ own_track (sight_of e own next)
own-next e own cycle next before after feet gains is same at from law =
    let to : next ≡ suc cycle = is ∙ add-one cycle in
    let ms : List (Option ℤ) = map (λ (f : ℤ). Some f) (newest_first (own_altitude e own) cycle) in
    let measured : feet ≡ own_altitude e own (suc cycle) = at ∙ ap (own_altitude e own) to in
    law ms (from ∙ ap (λ (g : Gains). altitude_track g ms) (sym same))
    ∙ (λ i. altitude_track (same i) (Some (measured i) ∷ ms))
    ∙ ap (λ n. own_track (sight_of e own n)) (sym to)
