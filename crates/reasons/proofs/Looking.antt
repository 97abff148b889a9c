-- What is seen, from what is kept and measured.
use Rattle.std.proofs.Common.{◌≡◌, ◌≢◌, ◌<◌, ◌≤◌, ◌^◌, ◌∙◌, ℕ, zero, suc, ℤ, length, get_or, Option, Some, None, false, arith, refl, sym, ap, ap₂, inl, inr, List, ne_eqb, subst, unsigned_abs}
use Rattle.std.specs.Prelude.{Bool, IfSome, if◌then◌else◌, option_map, slice_get, slice_index_or}
use Rattle.std.specs.Option.{option_and_then, option_map_or}
use Rattle.std.proofs.lemmas.Int.{ints}
use Rattle.std.proofs.lemmas.Option.{slice_get_cases}
use Rattle.acas_base.specs.Encounter.{Parts}
use Rattle.acas_base.specs.Next.{rank_by}
use Rattle.acas_base.specs.declared.TheConstants.{CRAFTS}
use Rattle.acas_base.specs.declared.advisory.Rank.{Rank}
use Rattle.acas_base.specs.declared.advisory.Rank.TheVariants.{Free}
use Rattle.acas_base.specs.declared.craft.CraftSpec.{CraftSpec}
use Rattle.acas_base.specs.declared.level.Level.{Level}
use Rattle.acas_base.specs.declared.view.Picture.{Picture}
use Rattle.acas_base.specs.declared.view.View.{View}
use Rattle.air_journal.proofs.Seeing.{seen}
use Rattle.air_journal.specs.Airs.{address_of, air_of}
use Rattle.air_rules.specs.Air.{rank_of}
use Rattle.craft_view.specs.Kept.{Belongs, Kept, kept_of}
use Rattle.craft_view.specs.KnownTracks.{IsMotion, motion_of, no_tracks, own_track, tracks_by, tracks_of}
use Rattle.craft_view.specs.Own.{AreRows, own_of}
use Rattle.craft_view.specs.Sight.{Other, Sight, known_of, other_craft, sight_of}
use Rattle.craft_view.specs.Views.{no_view, picture_of, view_by, view_in}
use Rattle.craft_view.specs.declared.motion.Motion.{Motion}
use Rattle.craft_view.specs.declared.own.OwnAircraft.{OwnAircraft}
use Rattle.flight.specs.Measurement.{measurement, own_altitude}
use Rattle.flight.specs.declared.measuring.Meas.{Meas}
use Rattle.reasons.proofs.Separated.{moderate-plain, moderate-view}
use Rattle.reasons.specs.Bounds.{IsModerate, IsOwnSide}
use Rattle.reasons.specs.Seen.{own_side_of, seen_of}
use Rattle.reasons.specs.declared.seen.OwnSide.{OwnSide}
use Rattle.reasons.specs.declared.seen.Seen.{Seen}
use Rattle.sens_table.specs.Levels.{IsLevel}

-- ---- own side

pub own-side-is : (e : Parts) (own cycle : ℕ) (altitude : ℤ) (aircraft : OwnAircraft) → 1 ≤ cycle → altitude ≡ own_altitude e own cycle → aircraft ≡ own_of (sight_of e own cycle)
    → (let it : OwnSide = record { altitude = altitude; level = aircraft.level.sl; aircraft = aircraft } in it) ≡ own_side_of (sight_of e own cycle)
unfolding own_side_of
own-side-is e own zero altitude aircraft begun a o = absurd (omega arith)
own-side-is e own (suc n) altitude aircraft begun a o = λ i. record { altitude = a i; level = (o i).level.sl; aircraft = o i }

pub small-alim : (level : Level) → IsLevel level → unsigned_abs level.alim ≤ 2 ^ 25
small-alim level is = let alim = is.alim in omega (arith, ints)

-- ---- the other aircraft

other-there : (e : Parts) (own other : ℕ) → own ≢ other → other_craft e own other ≡ slice_get e.crafts other
other-there e own other apart = ap (λ (b : Bool). if b then None else slice_get e.crafts other) (ne_eqb other own (λ same. apart (sym same)))

pub rank-known : (e : Parts) (own other cycle : ℕ) → own ≢ other → rank_of (air_of e) own other ≡ option_map_or (λ (o : Other). o.rank) ((sight_of e own cycle).others other) Free
rank-known e own other cycle apart =
    by_craft (slice_get e.crafts other) ∙ ap (λ (o : Option CraftSpec). option_map_or (λ (k : Other). k.rank) (option_map (known_of e own cycle other) o) Free) (sym (other-there e own other apart))
  where
    by_craft : (o : Option CraftSpec) → option_map_or (rank_by (address_of e own) (option_map_or (λ (craft : CraftSpec). craft.address) o 0)) (option_map (λ (craft : CraftSpec). craft.kind) o) Free
        ≡ option_map_or (λ (k : Other). k.rank) (option_map (known_of e own cycle other) o) Free
    by_craft None = refl
    by_craft (Some craft) = refl

there : {X : Type 0} (xs : List X) (i : ℕ) → i < length xs → slice_get xs i ≡ None → ⊥
there xs i within none = elim (slice_get_cases xs i).1 [
  | inl h ↦ (let some = h.2 in cc)
  | inr h ↦ (let past = h.0 in omega arith)
]

reply-known : (e : Parts) (own other cycle : ℕ) → own ≢ other → other < length e.crafts → 1 ≤ cycle
    → measurement e own other cycle ≡ option_and_then (λ (o : Other). slice_index_or o.seen 0 None) ((sight_of e own cycle).others other)
reply-known e own other zero apart within begun = absurd (omega arith)
reply-known e own other (suc n) apart within begun =
    by_craft (slice_get e.crafts other) refl ∙ ap (λ (o : Option CraftSpec). option_and_then (λ (k : Other). slice_index_or k.seen 0 None) (option_map (known_of e own (suc n) other) o)) (sym (other-there e own other apart))
  where
    by_craft : (o : Option CraftSpec) → slice_get e.crafts other ≡ o → measurement e own other (suc n) ≡ option_and_then (λ (k : Other). slice_index_or k.seen 0 None) (option_map (known_of e own (suc n) other) o)
    by_craft None is = absurd (there e.crafts other within is)
    by_craft (Some craft) is = refl

motion-known : (e : Parts) (kept : Kept) (other : ℕ) → Belongs e kept → other < CRAFTS → motion_of kept.altitude (kept_of kept other) ≡ motion_of (own_track (sight_of e kept.own kept.cycle)) (tracks_of (sight_of e kept.own kept.cycle) other)
motion-known e kept other b h = ap₂ motion_of b.altitude (b.tracks other h)

pub seen-is : (e : Parts) (kept : Kept) (other : ℕ) (picture : Picture) (rank : Rank) (reply : Option Meas) (own : OwnSide) (motion : Option Motion) (d : View)
    → Belongs e kept → 1 ≤ kept.cycle → kept.own ≢ other → other < length e.crafts → other < CRAFTS → picture ≡ picture_of e kept.own kept.cycle
    → rank ≡ rank_of (air_of e) kept.own other → reply ≡ measurement e kept.own other kept.cycle → own ≡ own_side_of (sight_of e kept.own kept.cycle) → motion ≡ motion_of kept.altitude (kept_of kept other)
    → (let it : Seen = record { rank = rank; reply = reply; own = own; motion = motion; view = slice_index_or picture.views other d } in it) ≡ seen_of (sight_of e kept.own kept.cycle) other
unfolding seen_of
seen-is e kept other picture rank reply own motion d b begun apart within few p r m o t =
    let rank-is = r ∙ rank-known e kept.own other kept.cycle apart in
    let reply-is = m ∙ reply-known e kept.own other kept.cycle apart within begun in
    let motion-is = t ∙ motion-known e kept other b few in
    let view-is = seen e kept.own kept.cycle picture p other few d in
    λ i. record { rank = rank-is i; reply = reply-is i; own = o i; motion = motion-is i; view = view-is i }

-- ---- how large its numbers are

own-aircraft : (s : Sight) → (own_side_of s).aircraft ≡ own_of s
unfolding own_side_of
own-aircraft s = refl

moderate-other : (s : Sight) (index : ℕ) → AreRows (own_of s) → unsigned_abs (own_of s).level.alim ≤ 2 ^ 25 → IfSome (motion_of (own_track s) (tracks_of s index)) IsMotion → IsModerate (view_in s index)
unfolding view_in
moderate-other s index rows alim motion = by_other (s.others index) motion
  where
    by_other : (o : Option Other) → IfSome (motion_of (own_track s) (option_map_or (λ (other : Other). tracks_by s other.seen) o no_tracks)) IsMotion
        → IsModerate (option_map_or (λ (other : Other). view_by (own_of s) (own_track s) (tracks_by s other.seen)) o no_view)
    by_other None m = moderate-plain false false false
    by_other (Some other) m = moderate-view (own_of s) (own_track s) (tracks_by s other.seen) rows alim m

pub moderate-seen : (e : Parts) (kept : Kept) (other : ℕ) (picture : Picture) (index : ℕ) (d : View) (own : OwnSide) (motion : Option Motion)
    → Belongs e kept → own ≡ own_side_of (sight_of e kept.own kept.cycle) → IsOwnSide own → other < CRAFTS → index ≡ other → picture ≡ picture_of e kept.own kept.cycle
    → motion ≡ motion_of kept.altitude (kept_of kept other) → IfSome motion IsMotion → IsModerate (slice_index_or picture.views index d)
moderate-seen e kept other picture index d own motion b o bounds few same p t m =
    let s = sight_of e kept.own kept.cycle in
    let aircraft : own.aircraft ≡ own_of s = ap (λ (x : OwnSide). x.aircraft) o ∙ own-aircraft s in
    let view-is = ap (λ n. get_or picture.views n d) same ∙ seen e kept.own kept.cycle picture p other few d in
    subst IsModerate (sym view-is)
    (moderate-other s other (subst AreRows aircraft bounds.rows) (subst (λ (x : OwnAircraft). unsigned_abs x.level.alim ≤ 2 ^ 25) aircraft bounds.alim)
    (subst (λ (x : Option Motion). IfSome x IsMotion) (t ∙ motion-known e kept other b few) m))
