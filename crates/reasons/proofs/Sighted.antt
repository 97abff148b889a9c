-- The view of what is seen, from its tracks.
use Rattle.std.proofs.Common.{◌≡◌, ◌∙◌, ℕ, Bool, true, false, Option, Some, None, refl, sym, ap, subst}
use Rattle.std.specs.Prelude.{◌*◌, if◌then◌else◌, is_some, pos}
use Rattle.std.specs.Option.{option_map_or}
use Rattle.acas_base.specs.Senses.{neither}
use Rattle.acas_base.specs.declared.level.Level.{Level}
use Rattle.acas_base.specs.declared.level.Row.{Row}
use Rattle.acas_base.specs.declared.setting.Profile.{Profile}
use Rattle.acas_base.specs.declared.setting.Profile.TheVariants as profiles
use Rattle.acas_base.specs.declared.view.View.{View}
use Rattle.acas_num.specs.declared.track.TrackState.{TrackState}
use Rattle.acas_num.specs.declared.track.TrackState.TheVariants.{Empty, One, Run}
use Rattle.craft_view.specs.Hits.{is_hit}
use Rattle.craft_view.specs.KnownTracks.{motion_of, no_tracks, own_track, tracks_by}
use Rattle.craft_view.specs.Own.{bounds_above, own_of}
use Rattle.craft_view.specs.ProfileTwo as two
use Rattle.craft_view.specs.Sight.{Other, Sight}
use Rattle.craft_view.specs.Views.{first_view, in_profile, no_view, plain_view, resolving_view, second_view, shows_traffic, tested_view, view_by, view_in}
use Rattle.craft_view.specs.declared.motion.Motion.{Motion}
use Rattle.craft_view.specs.declared.own.OwnAircraft.{OwnAircraft}
use Rattle.reasons.specs.Seen.{own_side_of, seen_of}
use Rattle.reasons.specs.Shown.{is_projected}
use Rattle.reasons.specs.declared.seen.Seen.{Seen}
use Rattle.sens_table.specs.Above.{level_of}
use Rattle.sens_table.specs.declared.above.Above.{Above}

-- ---- the view by the motion

abbrev pub view_by_motion : OwnAircraft → Bool → Option Motion → View
view_by_motion own resolves motion = option_map_or (tested_view own) motion (plain_view false false resolves)

no-motion : (own : TrackState) → motion_of own no_tracks ≡ None
no-motion Empty = refl
no-motion (One est) = refl
no-motion (Run est rate missed) = refl

by-other : (s : Sight) (o : Option Other)
    → (resolves : Bool) × (option_map_or (λ (other : Other). view_by (own_of s) (own_track s) (tracks_by s other.seen)) o no_view
    ≡ view_by_motion (own_of s) resolves (motion_of (own_track s) (option_map_or (λ (other : Other). tracks_by s other.seen) o no_tracks)))
unfolding view_by
by-other s None = (false, ap (view_by_motion (own_of s) false) (sym (no-motion (own_track s))))
by-other s (Some other) = (is_some (own_of s).resolution, refl)

-- What is seen has the view of its motion, and ALIM in whole feet.
pub record IsSighted (seen : Seen) : Type 0 where
  pub resolves : Bool
  pub view_is : seen.view ≡ view_by_motion seen.own.aircraft resolves seen.motion
  pub feet : ℕ
  pub alim_is : seen.own.aircraft.level.alim ≡ pos (feet * 1024)

-- ---- ALIM in whole feet

abbrev IsWhole : Level → Type 0
IsWhole level = (feet : ℕ) × (level.alim ≡ pos (feet * 1024))

either : (b : Bool) (one two : Level) → IsWhole one → IsWhole two → IsWhole (if b then one else two)
either true one two p q = p
either false one two p q = q

whole-level : (above : Above) → IsWhole (level_of above)
unfolding level_of
whole-level above =
    either above.band_2 _ _ (either above.band_3 _ _ (either above.band_4 _ _ (either above.band_5 _ _ (either above.band_6 _ _ (either above.band_7 _ _
    (700, refl) (600, refl)) (400, refl)) (350, refl)) (300, refl)) (300, refl)) (0, refl)

whole-alim : (s : Sight) → (feet : ℕ) × ((own_of s).level.alim ≡ pos (feet * 1024))
unfolding own_of
whole-alim s = whole-level (bounds_above s)

pub sighted : (s : Sight) (other : ℕ) → IsSighted (seen_of s other)
unfolding seen_of own_side_of view_in
sighted s other =
    let by = by-other s (s.others other) in
    let whole = whole-alim s in
    record { resolves = by.0; view_is = by.1; feet = whole.0; alim_is = whole.1 }

-- ---- where own aircraft resolves

-- A view with thresholds of a resolution advisory, or none.
abbrev pub view_by_row : OwnAircraft → Motion → Option Row → View
view_by_row own m row = option_map_or (resolving_view own m) row (plain_view true (shows_traffic own m) false)

-- A threat is seen only where the pair is tested and own aircraft resolves.
pub by-profile : (profile : Profile) (own : OwnAircraft) (m : Motion) (row : Row) → is_projected (in_profile profile (first_view own m row) (second_view own m row)) ≡ true
by-profile profiles.One own m row = refl
by-profile profiles.Two own m row = refl

by-row : (own : OwnAircraft) (m : Motion) (o : Option Row) → (view_by_row own m o).threat ≡ true → is_projected (view_by_row own m o) ≡ true
by-row own m None threat = absurd cc
by-row own m (Some row) threat = by-profile own.profile own m row

by-motion : (own : OwnAircraft) (resolves : Bool) (o : Option Motion) → (view_by_motion own resolves o).threat ≡ true → is_projected (view_by_motion own resolves o) ≡ true
by-motion own resolves None threat = absurd cc
by-motion own resolves (Some m) threat = by-row own m own.resolution threat

pub threat-projects : (seen : Seen) → IsSighted seen → seen.view.threat ≡ true → is_projected seen.view ≡ true
threat-projects seen is threat =
    subst (λ (v : View). v.threat ≡ true → is_projected v ≡ true) (sym is.view_is) (by-motion seen.own.aircraft is.resolves seen.motion) threat

-- There the view has own ALIM.
alim-by-profile : (profile : Profile) (own : OwnAircraft) (m : Motion) (row : Row) → (in_profile profile (first_view own m row) (second_view own m row)).alim ≡ own.level.alim
alim-by-profile profiles.One own m row = refl
alim-by-profile profiles.Two own m row = refl

alim-by-row : (own : OwnAircraft) (m : Motion) (o : Option Row) → is_projected (view_by_row own m o) ≡ true → (view_by_row own m o).alim ≡ own.level.alim
alim-by-row own m None there = absurd cc
alim-by-row own m (Some row) there = alim-by-profile own.profile own m row

alim-by-motion : (own : OwnAircraft) (resolves : Bool) (o : Option Motion) → is_projected (view_by_motion own resolves o) ≡ true → (view_by_motion own resolves o).alim ≡ own.level.alim
alim-by-motion own resolves None there = absurd cc
alim-by-motion own resolves (Some m) there = alim-by-row own m own.resolution there

pub alim-whole : (seen : Seen) → (is : IsSighted seen) → is_projected seen.view ≡ true → seen.view.alim ≡ pos (is.feet * 1024)
alim-whole seen is there =
    subst (λ (v : View). is_projected v ≡ true → v.alim ≡ seen.own.aircraft.level.alim) (sym is.view_is) (alim-by-motion seen.own.aircraft is.resolves seen.motion) there ∙ is.alim_is

-- ---- in profile 1

-- The view by the motion in profile 1.
abbrev pub first_by_row : OwnAircraft → Motion → Option Row → View
first_by_row own m row = option_map_or (first_view own m) row (plain_view true (is_hit m own.level.ta) false)

abbrev pub first_by_motion : OwnAircraft → Bool → Option Motion → View
first_by_motion own resolves motion = option_map_or (λ (m : Motion). first_by_row own m own.resolution) motion (plain_view false false resolves)

first-row : (own : OwnAircraft) (m : Motion) → own.profile ≡ profiles.One → (o : Option Row) → view_by_row own m o ≡ first_by_row own m o
first-row own m one None = ap (λ (p : Profile). plain_view true (in_profile p (is_hit m own.level.ta) (two.shows_traffic own m)) false) one
first-row own m one (Some row) = ap (λ (p : Profile). in_profile p (first_view own m row) (second_view own m row)) one

first-motion : (own : OwnAircraft) (resolves : Bool) → own.profile ≡ profiles.One → (o : Option Motion) → view_by_motion own resolves o ≡ first_by_motion own resolves o
first-motion own resolves one None = refl
first-motion own resolves one (Some m) = first-row own m one own.resolution

pub first-is : (seen : Seen) → (is : IsSighted seen) → seen.own.aircraft.profile ≡ profiles.One → seen.view ≡ first_by_motion seen.own.aircraft is.resolves seen.motion
first-is seen is one = is.view_is ∙ first-motion seen.own.aircraft is.resolves one seen.motion

-- No aircraft passes far away, none is in a chase, and enough is ALIM.
pub record IsPlain (view : View) : Type 0 where
  pub far : view.far ≡ false
  pub chases : view.chases ≡ neither
  pub enough : view.enough ≡ view.alim

plain-by-row : (own : OwnAircraft) (m : Motion) (o : Option Row) → IsPlain (first_by_row own m o)
plain-by-row own m None = record { far = refl; chases = refl; enough = refl }
plain-by-row own m (Some row) = record { far = refl; chases = refl; enough = refl }

plain-by-motion : (own : OwnAircraft) (resolves : Bool) (o : Option Motion) → IsPlain (first_by_motion own resolves o)
plain-by-motion own resolves None = record { far = refl; chases = refl; enough = refl }
plain-by-motion own resolves (Some m) = plain-by-row own m own.resolution

pub plain-seen : (seen : Seen) → IsSighted seen → seen.own.aircraft.profile ≡ profiles.One → IsPlain seen.view
plain-seen seen is one = subst IsPlain (sym (first-is seen is one)) (plain-by-motion seen.own.aircraft is.resolves seen.motion)

-- An aircraft has the profile of its sight.
pub profile-is : (s : Sight) (other : ℕ) → (seen_of s other).own.aircraft.profile ≡ s.profile
unfolding seen_of own_side_of own_of
profile-is s other = refl
