-- What is shown of a view.
use Rattle.std.proofs.Common.{◌≡◌, ℕ, Bool, true, false, Some, None, refl, sym}
use Rattle.std.specs.Prelude.{is_some}
use Rattle.acas_base.specs.Encounter.{Parts}
use Rattle.acas_base.specs.declared.level.Row.{Row}
use Rattle.acas_base.specs.declared.view.View.{View}
use Rattle.acas_num.specs.declared.track.TrackState.{TrackState}
use Rattle.craft_view.specs.KnownTracks.{motion_of}
use Rattle.craft_view.specs.Views.{outline_of, picture_after, picture_of, plain_view, resolving_view, second_view, shown, shows_traffic, tested_view, view_by, with_separations}
use Rattle.craft_view.specs.declared.motion.Motion.{Motion}
use Rattle.craft_view.specs.declared.own.OwnAircraft.{OwnAircraft}
use Rattle.craft_view.specs.declared.tracks.Tracks.{Tracks}

-- A view that isn't tested or doesn't resolve has no separations.
pub shown-plain : (asked tested traffic resolves : Bool) → shown asked (plain_view tested traffic resolves) ≡ plain_view tested traffic resolves
shown-plain true tested traffic resolves = refl
shown-plain false tested traffic resolves = refl

-- A threat is shown whole.
pub shown-threat : (asked : Bool) (view : View) → view.threat ≡ true → view ≡ shown asked view
shown-threat true view threat = refl
shown-threat false view threat = rw threat refl

-- What isn't asked for and is no threat is shown in outline.
pub shown-outline : (asked : Bool) (view : View) → asked ≡ false → view.threat ≡ false → outline_of view ≡ shown asked view
shown-outline asked view unasked calm = rw (unasked, calm) refl

pub shown-asked : (asked : Bool) (view : View) → asked ≡ true → view ≡ shown asked view
shown-asked asked view is = rw is refl

pub shown-untested : (asked : Bool) (own : OwnAircraft) (mine : TrackState) (tracks : Tracks) → motion_of mine tracks ≡ None → plain_view false false (is_some own.resolution) ≡ shown asked (view_by own mine tracks)
unfolding view_by
shown-untested asked own mine tracks none = rw none (sym (shown-plain asked false false (is_some own.resolution)))

pub shown-tested : (asked : Bool) (own : OwnAircraft) (mine : TrackState) (tracks : Tracks) (m : Motion) → motion_of mine tracks ≡ Some m → shown asked (tested_view own m) ≡ shown asked (view_by own mine tracks)
unfolding view_by
shown-tested asked own mine tracks m is = rw is refl

pub shown-unresolved : (asked : Bool) (own : OwnAircraft) (m : Motion) → own.resolution ≡ None → plain_view true (shows_traffic own m) false ≡ shown asked (tested_view own m)
shown-unresolved asked own m none = rw none (sym (shown-plain asked true (shows_traffic own m) false))

pub shown-resolving : (asked : Bool) (own : OwnAircraft) (m : Motion) (row : Row) → own.resolution ≡ Some row → shown asked (resolving_view own m row) ≡ shown asked (tested_view own m)
shown-resolving asked own m row is = rw is refl

-- The view of profile 2 is its outline with its separations.
pub whole-again : (own : OwnAircraft) (m : Motion) (row : Row) → with_separations own m (outline_of (second_view own m row)) ≡ second_view own m row
whole-again own m row = refl

-- Without cells before, all is shown.
pub whole-picture : (e : Parts) (own cycle : ℕ) → picture_after None e own cycle ≡ picture_of e own cycle
unfolding picture_after picture_of
whole-picture e own cycle = refl
