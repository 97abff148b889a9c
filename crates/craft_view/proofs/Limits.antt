-- Limits on the vertical rate that own rate meets separate alike: each of them asks for own rate.
use Rattle.std.proofs.Common.{◌≡◌, ℕ, Bool, true, false, ℤ, pos, ◌≤ℤ◌, map, get_or, replicate, cond, Option, None, Some, refl, subst, sym, ◌∙◌, arith, rules}
use Rattle.std.specs.Prelude.{neg_ℤ, int_le, is_some, option_map}
use Rattle.std.specs.Bool.{Decides}
use Rattle.std.specs.Option.{option_map_or}
use Rattle.std.proofs.lemmas.Int.{ints, clamps}
use Rattle.acas_base.specs.Choice.{separation_of}
use Rattle.acas_base.specs.Encounter.{Parts}
use Rattle.acas_base.specs.Limits.{LimitsAskForOwnRate}
use Rattle.acas_base.specs.Strengths.{floor_of, is_fresh, meets_floor, place_of, weakest_first}
use Rattle.acas_base.specs.declared.advisory.Sense.{Sense}
use Rattle.acas_base.specs.declared.advisory.Sense.TheVariants.{Down, Up}
use Rattle.acas_base.specs.declared.advisory.Strength.{Strength}
use Rattle.acas_base.specs.declared.advisory.Strength.TheVariants.{Limit2000, Limit1000, Limit500, Level, Positive, Increase}
use Rattle.acas_base.specs.declared.choice.Choice.{Choice}
use Rattle.acas_base.specs.declared.choice.Choice.TheVariants.{Fresh, Steady, Urgent}
use Rattle.acas_base.specs.declared.craft.CraftSpec.{CraftSpec}
use Rattle.acas_base.specs.declared.level.Row.{Row}
use Rattle.acas_base.specs.declared.setting.Profile.{Profile}
use Rattle.acas_base.specs.declared.setting.Profile.TheVariants.{One}
use Rattle.acas_base.specs.declared.view.View.{View}
use Rattle.acas_num.specs.declared.track.TrackState.{TrackState}
use Rattle.craft_view.specs.Facts.{MeetsLimits}
use Rattle.craft_view.specs.KnownTracks.{motion_of, own_track, tracks_by}
use Rattle.craft_view.specs.Own.{own_of}
use Rattle.craft_view.specs.Separations.{asked_rate, first_response, halves_to, later_response, own_after, separation, separations}
use Rattle.craft_view.specs.Sight.{Other, known_of, other_craft, sight_of}
use Rattle.craft_view.specs.Views.{first_view, in_profile, no_view, plain_view, resolving_view, second_view, shows_traffic, tested_view, view_by, view_in}
use Rattle.craft_view.specs.declared.motion.Motion.{Motion}
use Rattle.craft_view.specs.declared.own.OwnAircraft.{OwnAircraft}
use Rattle.craft_view.specs.declared.separations.Response.{Response}
use Rattle.craft_view.specs.declared.tracks.Tracks.{Tracks}
use Rattle.craft_view.proofs.Keeping.{meets-lower}

le-tested : (a b : ℤ) → Decides (int_le a b) (a ≤ℤ b)
le-tested a b = search rules

-- Where own rate meets a floor, it is asked for.
asked-met : (view : View) (sense : Sense) (strength : Strength) → meets_floor view sense strength ≡ true → asked_rate sense strength view.rate ≡ view.rate
unfolding asked_rate
asked-met view Up strength met = let over : floor_of strength ≤ℤ view.rate = (le-tested (floor_of strength) view.rate).0 met in omega (arith, ints, clamps, over)
asked-met view Down strength met = let under : view.rate ≤ℤ neg_ℤ (floor_of strength) = (le-tested view.rate (neg_ℤ (floor_of strength))).0 met in omega (arith, ints, clamps, under)

lowest : (strength : Strength) → floor_of Limit2000 ≤ℤ floor_of strength
lowest Limit2000 = omega (arith, ints)
lowest Limit1000 = omega (arith, ints)
lowest Limit500 = omega (arith, ints)
lowest Level = omega (arith, ints)
lowest Positive = omega (arith, ints)
lowest Increase = omega (arith, ints)

-- What ask for own rate separate alike.
alike : (m : Motion) (halves : ℕ) (response : Response) (sense : Sense) (one two : Strength) → asked_rate sense one m.own.rate ≡ m.own.rate → asked_rate sense two m.own.rate ≡ m.own.rate
    → separation One m halves response sense one ≡ separation One m halves response sense two
unfolding separation own_after
alike m halves response sense one two first second = rw (first, second) refl

-- What stands at the place of a strength.
at-place : (f : Strength → ℤ) (strength : Strength) → get_or (map f weakest_first) (place_of strength) (pos 0) ≡ f strength
at-place f Limit2000 = refl
at-place f Limit1000 = refl
at-place f Limit500 = refl
at-place f Level = refl
at-place f Positive = refl
at-place f Increase = refl

abbrev response_of : Choice → Response
response_of choice = cond (is_fresh choice) first_response later_response

separation-read : (me : OwnAircraft) (m : Motion) (row : Row) (sense : Sense) (choice : Choice) (strength : Strength)
    → separation_of (first_view me m row) sense strength choice ≡ separation One m (halves_to m.range row) (response_of choice) sense strength
unfolding separations
separation-read me m row Up Fresh strength = at-place (separation One m (halves_to m.range row) first_response Up) strength
separation-read me m row Up Steady strength = at-place (separation One m (halves_to m.range row) later_response Up) strength
separation-read me m row Up Urgent strength = at-place (separation One m (halves_to m.range row) later_response Up) strength
separation-read me m row Down Fresh strength = at-place (separation One m (halves_to m.range row) first_response Down) strength
separation-read me m row Down Steady strength = at-place (separation One m (halves_to m.range row) later_response Down) strength
separation-read me m row Down Urgent strength = at-place (separation One m (halves_to m.range row) later_response Down) strength

limits-resolving : (me : OwnAircraft) (m : Motion) (row : Row) → LimitsAskForOwnRate (first_view me m row)
limits-resolving me m row sense choice limit is met =
    let own = asked-met (first_view me m row) sense limit met in
    separation-read me m row sense choice limit
    ∙ alike m (halves_to m.range row) (response_of choice) sense limit Limit2000 own (meets-lower sense Limit2000 limit m.own.rate (lowest limit) own)
    ∙ sym (separation-read me m row sense choice Limit2000)

-- A view that isn't tested, or doesn't resolve, has no separations.
none-at : (strength : Strength) → get_or (replicate 6 (pos 0)) (place_of strength) (pos 0) ≡ pos 0
none-at Limit2000 = refl
none-at Limit1000 = refl
none-at Limit500 = refl
none-at Level = refl
none-at Positive = refl
none-at Increase = refl

plain-read : (tested traffic resolves : Bool) (sense : Sense) (choice : Choice) (strength : Strength) → separation_of (plain_view tested traffic resolves) sense strength choice ≡ pos 0
plain-read tested traffic resolves Up Fresh strength = none-at strength
plain-read tested traffic resolves Up Steady strength = none-at strength
plain-read tested traffic resolves Up Urgent strength = none-at strength
plain-read tested traffic resolves Down Fresh strength = none-at strength
plain-read tested traffic resolves Down Steady strength = none-at strength
plain-read tested traffic resolves Down Urgent strength = none-at strength

limits-plain : (tested traffic resolves : Bool) → LimitsAskForOwnRate (plain_view tested traffic resolves)
limits-plain tested traffic resolves sense choice limit is met = plain-read tested traffic resolves sense choice limit ∙ sym (plain-read tested traffic resolves sense choice Limit2000)

limits-by : (me : OwnAircraft) (mine : TrackState) (tracks : Tracks) → me.profile ≡ One → LimitsAskForOwnRate (view_by me mine tracks)
unfolding view_by
limits-by me mine tracks first = by_motion (motion_of mine tracks)
  where
    by_row : (m : Motion) (row : Option Row) → LimitsAskForOwnRate (option_map_or (resolving_view me m) row (plain_view true (shows_traffic me m) false))
    by_row m None = limits-plain true (shows_traffic me m) false
    by_row m (Some row) = subst (λ (p : Profile). LimitsAskForOwnRate (in_profile p (first_view me m row) (second_view me m row))) (sym first) (limits-resolving me m row)

    by_motion : (o : Option Motion) → LimitsAskForOwnRate (option_map_or (tested_view me) o (plain_view false false (is_some me.resolution)))
    by_motion None = limits-plain false false (is_some me.resolution)
    by_motion (Some m) = by_row m me.resolution

own-profile : (e : Parts) (own cycle : ℕ) → (own_of (sight_of e own cycle)).profile ≡ e.profile
unfolding own_of
own-profile e own cycle = refl

pub meets-limits : (e : Parts) (own target cycle : ℕ) → MeetsLimits e own target cycle
unfolding view_in
meets-limits e own target cycle first = by_craft (other_craft e own target)
  where
    by_craft : (o : Option CraftSpec)
        → LimitsAskForOwnRate (option_map_or (λ (k : Other). view_by (own_of (sight_of e own cycle)) (own_track (sight_of e own cycle)) (tracks_by (sight_of e own cycle) k.seen)) (option_map (known_of e own cycle target) o) no_view)
    by_craft None = limits-plain false false false
    by_craft (Some craft) = limits-by _ _ _ (own-profile e own cycle ∙ first)
