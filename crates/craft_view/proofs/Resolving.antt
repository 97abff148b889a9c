-- When a view resolves, and when it sees a threat.
use Rattle.std.proofs.Common.{◌≡◌, ℕ, ◌≤◌, Bool, true, false, Option, Some, None, refl, sym, ◌∙◌, IsTrue, leb-true, le-leb, rules}
use Rattle.std.specs.Prelude.{◌↔◌, is_some, slice_get, option_map, if◌then◌else◌, nat_lt}
use Rattle.std.specs.Option.{option_map_or}
use Rattle.acas_base.specs.Encounter.{Parts}
use Rattle.acas_base.specs.declared.craft.CraftSpec.{CraftSpec}
use Rattle.acas_base.specs.declared.craft.Kind.{Kind}
use Rattle.acas_base.specs.declared.craft.Kind.TheVariants.{Ra, Ta, Xpdr}
use Rattle.acas_base.specs.declared.level.Level.{Level}
use Rattle.acas_base.specs.declared.level.Row.{Row}
use Rattle.acas_base.specs.declared.setting.Profile.{Profile}
use Rattle.acas_base.specs.declared.setting.Profile.TheVariants.{One, Two}
use Rattle.acas_num.specs.declared.track.TrackState.{TrackState}
use Rattle.craft_view.specs.Facts.{IsSeenAsThreat, Resolves, ResolvesAsOwn, SeesNothing, Threatens, level_in}
use Rattle.craft_view.specs.KnownTracks.{motion_of, own_track, tracks_by}
use Rattle.craft_view.specs.Own.{bounds_above, own_of, resolution_row}
use Rattle.craft_view.specs.Sight.{Other, known_of, other_craft, sight_of}
use Rattle.craft_view.specs.Views.{first_view, in_profile, no_view, plain_view, resolving_view, second_view, shows_traffic, tested_view, view_by, view_in}
use Rattle.craft_view.specs.declared.motion.Motion.{Motion}
use Rattle.craft_view.specs.declared.own.OwnAircraft.{OwnAircraft}
use Rattle.craft_view.specs.declared.tracks.Tracks.{Tracks}
use Rattle.sens_table.specs.Above.{level_of}
use Rattle.sens_table.specs.Levels as table
use Rattle.sens_table.specs.declared.above.Above.{Above}

pub see-nothing : (e : Parts) (own target cycle : ℕ) → SeesNothing e own target cycle
unfolding view_in
see-nothing e own target cycle none = rw none refl

seen-resolving : (p : Profile) (me : OwnAircraft) (m : Motion) (row : Row) → IsSeenAsThreat (in_profile p (first_view me m row) (second_view me m row))
seen-resolving One me m row = record { tested = refl; resolves = refl }
seen-resolving Two me m row = record { tested = refl; resolves = refl }

threat-by : (me : OwnAircraft) (mine : TrackState) (tracks : Tracks) → (view_by me mine tracks).threat ≡ true → IsSeenAsThreat (view_by me mine tracks)
unfolding view_by
threat-by me mine tracks h = by_motion (motion_of mine tracks) h
  where
    by_row : (m : Motion) (row : Option Row) → (option_map_or (resolving_view me m) row (plain_view true (shows_traffic me m) false)).threat ≡ true
        → IsSeenAsThreat (option_map_or (resolving_view me m) row (plain_view true (shows_traffic me m) false))
    by_row m None t = absurd (search rules)
    by_row m (Some row) t = seen-resolving me.profile me m row

    by_motion : (o : Option Motion) → (option_map_or (tested_view me) o (plain_view false false (is_some me.resolution))).threat ≡ true
        → IsSeenAsThreat (option_map_or (tested_view me) o (plain_view false false (is_some me.resolution)))
    by_motion None t = absurd (search rules)
    by_motion (Some m) t = by_row m me.resolution t

pub threatens : (e : Parts) (own target cycle : ℕ) → Threatens e own target cycle
unfolding view_in
threatens e own target cycle h = by_craft (other_craft e own target) h
  where
    by_craft : (o : Option CraftSpec)
        → (option_map_or (λ (k : Other). view_by (own_of (sight_of e own cycle)) (own_track (sight_of e own cycle)) (tracks_by (sight_of e own cycle) k.seen)) (option_map (known_of e own cycle target) o) no_view).threat ≡ true
        → IsSeenAsThreat (option_map_or (λ (k : Other). view_by (own_of (sight_of e own cycle)) (own_track (sight_of e own cycle)) (tracks_by (sight_of e own cycle) k.seen)) (option_map (known_of e own cycle target) o) no_view)
    by_craft None t = absurd (search rules)
    by_craft (Some craft) t = threat-by _ _ _ t

resolves-by : (me : OwnAircraft) (mine : TrackState) (tracks : Tracks) → (view_by me mine tracks).resolves ≡ is_some me.resolution
unfolding view_by
resolves-by me mine tracks = by_motion (motion_of mine tracks)
  where
    by_row : (m : Motion) (row : Option Row) → (option_map_or (resolving_view me m) row (plain_view true (shows_traffic me m) false)).resolves ≡ is_some row
    by_row m None = refl
    by_row m (Some row) = (seen-resolving me.profile me m row).resolves

    by_motion : (o : Option Motion) → (option_map_or (tested_view me) o (plain_view false false (is_some me.resolution))).resolves ≡ is_some me.resolution
    by_motion None = refl
    by_motion (Some m) = by_row m me.resolution

-- A level has thresholds of a resolution advisory exactly where its number is above 2.
abbrev IsRegular : Level → Type 0
IsRegular level = is_some level.ra ≡ nat_lt 2 level.sl

regular-if : (t : Bool) (a b : Level) → IsRegular a → IsRegular b → IsRegular (if t then a else b)
regular-if true a b one two = one
regular-if false a b one two = two

regular : (above : Above) → IsRegular (level_of above)
unfolding level_of
regular above =
    regular-if above.band_2 _ table.level_2 (regular-if above.band_3 _ table.level_3 (regular-if above.band_4 _ table.level_4
    (regular-if above.band_5 _ table.level_5 (regular-if above.band_6 _ table.level_6 (regular-if above.band_7 table.highest table.level_7 refl refl) refl) refl) refl) refl) refl

row-by : (kind : Option Kind) (level : Level) → IsRegular level → IsTrue (is_some (resolution_row kind level)) ↔ ((kind ≡ Some Ra) × (3 ≤ level.sl))
row-by None level is = (λ h. absurd (search rules), λ p. absurd (search rules))
row-by (Some Ra) level is = (λ h. (refl, leb-true 3 level.sl (sym is ∙ h)), λ p. is ∙ le-leb 3 level.sl p.1)
row-by (Some Ta) level is = (λ h. absurd (search rules), λ p. absurd (search rules))
row-by (Some Xpdr) level is = (λ h. absurd (search rules), λ p. absurd (search rules))

own-by : (e : Parts) (own cycle : ℕ) → IsTrue (is_some (own_of (sight_of e own cycle)).resolution) ↔ Resolves e own cycle
unfolding own_of
own-by e own cycle =
    let both = row-by (option_map (λ (craft : CraftSpec). craft.kind) (slice_get e.crafts own)) (level_in e own cycle)
    (regular (bounds_above (sight_of e own cycle))) in
    (λ h. let p = both.0 h in record { kind = p.0; level = p.1 }, λ r. both.1 (r.kind, r.level))

pub resolves-as-own : (e : Parts) (own target cycle : ℕ) → ResolvesAsOwn e own target cycle
unfolding view_in
resolves-as-own e own target cycle h = by_craft (other_craft e own target) h
  where
    by_craft : (o : Option CraftSpec) → IsTrue (is_some o)
        → IsTrue (option_map_or (λ (k : Other). view_by (own_of (sight_of e own cycle)) (own_track (sight_of e own cycle)) (tracks_by (sight_of e own cycle) k.seen)) (option_map (known_of e own cycle target) o) no_view).resolves
        ↔ Resolves e own cycle
    by_craft None some = absurd (search rules)
    by_craft (Some craft) some =
        let same = resolves-by (own_of (sight_of e own cycle)) (own_track (sight_of e own cycle)) (tracks_by (sight_of e own cycle) (known_of e own cycle target craft).seen) in
        (λ r. (own-by e own cycle).0 (sym same ∙ r), λ r. same ∙ (own-by e own cycle).1 r)
