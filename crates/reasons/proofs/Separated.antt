-- How large the separations of a view are.
use Rattle.std.proofs.Common.{◌-◌, ◌*◌, ◌≤◌, ◌^◌, ℕ, zero, suc, ℤ, pos, ◌+ℤ◌, ◌-ℤ◌, ◌*ℤ◌, ◌≤ℤ◌, ◌<ℤ◌, neg_ℤ, Bool, true, false, Option, Some, None, arith, rules, unsigned_abs}
use Rattle.std.specs.Prelude.{IfSome, if◌then◌else◌, int_le, int_lt, min, nat_le, slice_index_or}
use Rattle.std.specs.Int.{int_div_euclid, int_max, int_min}
use Rattle.std.specs.Option.{option_map_or}
use Rattle.std.proofs.Math.Nat.{mul-le-mul}
use Rattle.std.proofs.lemmas.Int.{clamps, ints, unsigned_abs-mul}
use Rattle.std.proofs.lemmas.List.Elements.{All-map, All-replicate}
use Rattle.acas_base.specs.Strengths.{floor_of, weakest_first}
use Rattle.acas_base.specs.declared.advisory.Sense.{Sense}
use Rattle.acas_base.specs.declared.advisory.Sense.TheVariants.{Up, Down}
use Rattle.acas_base.specs.declared.advisory.Strength.{Strength}
use Rattle.acas_base.specs.declared.advisory.Strength.TheVariants.{Limit2000, Limit1000, Limit500, Level, Positive, Increase}
use Rattle.acas_base.specs.declared.level.Row.{Row}
use Rattle.acas_base.specs.declared.setting.Profile.{Profile}
use Rattle.acas_base.specs.declared.setting.Profile.TheVariants as profiles
use Rattle.acas_num.proofs.Quotients.{quotient}
use Rattle.acas_num.specs.declared.track.TrackState.{TrackState}
use Rattle.craft_view.specs.KnownTracks.{IsAltitudeEstimate, IsMotion, motion_of}
use Rattle.craft_view.specs.Own.{AreRows}
use Rattle.craft_view.specs.ProfileTwo.{halves_left}
use Rattle.craft_view.specs.Separations.{apart, asked_rate, floor_rate, halves_to, is_limit, judged_rate, kept_after, own_after, separation, separations, zeros}
use Rattle.craft_view.specs.Views.{first_view, in_profile, plain_view, resolving_view, second_view, shows_traffic, tested_view, view_by}
use Rattle.craft_view.specs.declared.motion.Estimate.{Estimate}
use Rattle.craft_view.specs.declared.motion.Motion.{Motion}
use Rattle.craft_view.specs.declared.own.OwnAircraft.{OwnAircraft}
use Rattle.craft_view.specs.declared.separations.Response.{Response}
use Rattle.craft_view.specs.declared.tracks.Tracks.{Tracks}
use Rattle.project.specs.Projection.{rate_at, rates}
use Rattle.reasons.specs.Bounds.{AreModerate, IsModerate}
use Rattle.sens_table.specs.Levels.{IsTableRow}

between-up : (v goal x : ℤ) → pos 0 ≤ℤ x → v ≤ℤ goal → unsigned_abs v ≤ 2 ^ 18 → unsigned_abs goal ≤ 2 ^ 18 → unsigned_abs (int_min (v +ℤ x) goal) ≤ 2 ^ 18
between-up v goal x forward below one two = omega (arith, ints, clamps)

between-down : (v goal x : ℤ) → pos 0 ≤ℤ x → goal ≤ℤ v → unsigned_abs v ≤ 2 ^ 18 → unsigned_abs goal ≤ 2 ^ 18 → unsigned_abs (int_max (v -ℤ x) goal) ≤ 2 ^ 18
between-down v goal x forward below one two = omega (arith, ints, clamps)

-- A rate on the way to its goal.
small-between : (v goal x : ℤ) → pos 0 ≤ℤ x → unsigned_abs v ≤ 2 ^ 18 → unsigned_abs goal ≤ 2 ^ 18 → unsigned_abs (if int_le v goal then int_min (v +ℤ x) goal else int_max (v -ℤ x) goal) ≤ 2 ^ 18
small-between v goal x forward one two = grind (arith, ints, clamps, between-up, between-down)

pick : (b : Bool) (one two : ℤ) → unsigned_abs one ≤ 2 ^ 18 → unsigned_abs two ≤ 2 ^ 18 → unsigned_abs (if b then one else two) ≤ 2 ^ 18
pick true one two p q = p
pick false one two p q = q

small-rate : (v goal : ℤ) (delay step h : ℕ) → unsigned_abs v ≤ 2 ^ 18 → unsigned_abs goal ≤ 2 ^ 18 → unsigned_abs (rate_at v goal delay (pos step) h) ≤ 2 ^ 18
small-rate v goal delay step h one two =
    pick (nat_le h delay) _ _ one (small-between v goal (pos (h - delay) *ℤ pos step) (search rules) one two)

pub small-rates : (v goal : ℤ) (delay step n : ℕ) → unsigned_abs v ≤ 2 ^ 18 → unsigned_abs goal ≤ 2 ^ 18 → unsigned_abs (rates v goal delay (pos step) n) ≤ n * 2 ^ 18
small-rates v goal delay step zero one two = omega arith
small-rates v goal delay step (suc n) one two =
    let before = small-rates v goal delay step n one two in
    let next = small-rate v goal delay step (suc n) one two in
    omega (arith, ints)

half-small : (n : ℤ) → unsigned_abs n ≤ 2 ^ 26 → unsigned_abs (int_div_euclid n (pos 2)) ≤ 2 ^ 26
half-small n small = let q = quotient n (pos 2) (search rules) in half n (int_div_euclid n (pos 2)) q.within q.no_more small
  where
    half : (n q : ℤ) → (q *ℤ pos 2) ≤ℤ n → n <ℤ ((q +ℤ pos 1) *ℤ pos 2) → unsigned_abs n ≤ 2 ^ 26 → unsigned_abs q ≤ 2 ^ 26
    half n q within more small = omega (arith, ints)

small-sum : (a b : ℤ) → unsigned_abs a ≤ 2 ^ 26 → unsigned_abs b ≤ 2 ^ 26 → unsigned_abs (a +ℤ b) ≤ 2 ^ 27
small-sum a b p q = omega (arith, ints)

small-difference : (a b : ℤ) → unsigned_abs a ≤ 2 ^ 27 → unsigned_abs b ≤ 2 ^ 27 → unsigned_abs (a -ℤ b) ≤ 2 ^ 30
small-difference a b p q = omega (arith, ints)

-- ---- own altitude

small-floor : (strength : Strength) → unsigned_abs (floor_of strength) ≤ 2 ^ 18
small-floor Limit2000 = omega arith
small-floor Limit1000 = omega arith
small-floor Limit500 = omega arith
small-floor Level = omega arith
small-floor Positive = omega arith
small-floor Increase = omega arith

greater : (a b : ℤ) → unsigned_abs a ≤ 2 ^ 18 → unsigned_abs b ≤ 2 ^ 18 → unsigned_abs (int_max a b) ≤ 2 ^ 18
greater a b p q = omega (arith, ints, clamps)

smaller : (a b : ℤ) → unsigned_abs a ≤ 2 ^ 18 → unsigned_abs b ≤ 2 ^ 18 → unsigned_abs (int_min a (neg_ℤ b)) ≤ 2 ^ 18
smaller a b p q = omega (arith, ints, clamps)

small-goal : (sense : Sense) (strength : Strength) (rate : ℤ) → unsigned_abs rate ≤ 2 ^ 18 → unsigned_abs (asked_rate sense strength rate) ≤ 2 ^ 18
unfolding asked_rate
small-goal Up strength rate p = greater rate (floor_of strength) p (small-floor strength)
small-goal Down strength rate p = smaller rate (floor_of strength) p (small-floor strength)

small-down : (n : ℤ) → unsigned_abs n ≤ 2 ^ 18 → unsigned_abs (neg_ℤ n) ≤ 2 ^ 18
small-down n p = omega (arith, ints)

small-rate-at-floor : (sense : Sense) (strength : Strength) → unsigned_abs (floor_rate sense strength) ≤ 2 ^ 18
small-rate-at-floor Up strength = small-floor strength
small-rate-at-floor Down strength = small-down (floor_of strength) (small-floor strength)

-- The rate for which a separation is judged, in either profile.
small-judged : (profile : Profile) (sense : Sense) (strength : Strength) (rate : ℤ) → unsigned_abs rate ≤ 2 ^ 18 → unsigned_abs (judged_rate profile sense strength rate) ≤ 2 ^ 18
small-judged profiles.One sense strength rate p = small-goal sense strength rate p
small-judged profiles.Two sense strength rate p = pick (is_limit strength) _ _ (small-rate-at-floor sense strength) (small-goal sense strength rate p)

small-own : (profile : Profile) (own : Estimate) (halves delay step : ℕ) (sense : Sense) (strength : Strength) → IsAltitudeEstimate own → halves ≤ 120 →
    unsigned_abs (own_after profile own halves (let r : Response = record { delay = delay; step = pos step } in r) sense strength) ≤ 2 ^ 27
unfolding own_after
small-own profile own halves delay step sense strength is few =
    let goal = judged_rate profile sense strength own.rate in
    let sum = small-rates own.rate goal delay step halves is.rate (small-judged profile sense strength own.rate is.rate) in
    let half = half-small (rates own.rate goal delay (pos step) halves) (omega arith) in
    small-sum own.est (int_div_euclid (rates own.rate goal delay (pos step) halves) (pos 2)) is.est half

-- ---- the other's altitude

small-kept : (target : Estimate) (halves : ℕ) → IsAltitudeEstimate target → halves ≤ 120 → unsigned_abs (kept_after target halves) ≤ 2 ^ 27
unfolding kept_after
small-kept target halves is few =
    let size : unsigned_abs target.rate * halves ≤ 2 ^ 18 * 120 = mul-le-mul is.rate few in
    let product : unsigned_abs (target.rate *ℤ pos halves) ≤ 2 ^ 26 = (let e = unsigned_abs-mul target.rate (pos halves) in omega arith) in
    small-sum target.est (int_div_euclid (target.rate *ℤ pos halves) (pos 2)) is.est (half-small (target.rate *ℤ pos halves) product)

-- ---- the two apart

small-apart : (sense : Sense) (own target : ℤ) → unsigned_abs own ≤ 2 ^ 27 → unsigned_abs target ≤ 2 ^ 27 → unsigned_abs (apart sense own target) ≤ 2 ^ 30
unfolding apart
small-apart Up own target p q = small-difference own target p q
small-apart Down own target p q = small-difference target own q p

small-between-them : (profile : Profile) (m : Motion) (halves delay step : ℕ) (sense : Sense) (strength : Strength) → IsMotion m → halves ≤ 120 →
    unsigned_abs (separation profile m halves (let r : Response = record { delay = delay; step = pos step } in r) sense strength) ≤ 2 ^ 30
unfolding separation
small-between-them profile m halves delay step sense strength is few =
    small-apart sense _ (kept_after m.target halves) (small-own profile m.own halves delay step sense strength is.own few) (small-kept m.target halves is.target few)

moderate-seps : (profile : Profile) (m : Motion) (halves delay step : ℕ) → IsMotion m → halves ≤ 120 → AreModerate (separations profile m halves (let r : Response = record { delay = delay; step = pos step } in r))
unfolding separations
moderate-seps profile m halves delay step is few = record {
  up = All-map (λ n. unsigned_abs n ≤ 2 ^ 30) (separation profile m halves (record { delay = delay; step = pos step }) Up) weakest_first (λ k d h. small-between-them profile m halves delay step Up (slice_index_or weakest_first k d) is few);
  down = All-map (λ n. unsigned_abs n ≤ 2 ^ 30) (separation profile m halves (record { delay = delay; step = pos step }) Down) weakest_first (λ k d h. small-between-them profile m halves delay step Down (slice_index_or weakest_first k d) is few);
}

-- ---- a view

few-halves : (m : Motion) (row : Row) → IsTableRow row → halves_to m.range row ≤ 120
unfolding halves_to
few-halves m row is = go (int_lt m.range.rate (pos 0)) _ _ (let tau = is.tau in omega (arith, ints))
  where
    go : (b : Bool) (one two : ℕ) → one ≤ 120 → (if b then min one two else 0) ≤ 120
    go true one two h = omega arith
    go false one two h = omega arith

-- Once the square of the horizontal range grows, none is left.
few-left : (m : Motion) (row : Row) → IsTableRow row → halves_left m row ≤ 120
few-left m row is = go _ (halves_to m.range row) (few-halves m row is)
  where
    go : (b : Bool) (halves : ℕ) → halves ≤ 120 → (if b then 0 else halves) ≤ 120
    go true halves few = omega arith
    go false halves few = few

moderate-zeros : AreModerate zeros
moderate-zeros = record { up = All-replicate (λ n. unsigned_abs n ≤ 2 ^ 30) 6 (pos 0) (omega arith); down = All-replicate (λ n. unsigned_abs n ≤ 2 ^ 30) 6 (pos 0) (omega arith) }

pub moderate-plain : (tested traffic resolves : Bool) → IsModerate (plain_view tested traffic resolves)
moderate-plain tested traffic resolves = record { alim = omega arith; first = moderate-zeros; later = moderate-zeros }

moderate-resolving : (profile : Profile) (own : OwnAircraft) (m : Motion) (row : Row) → IsTableRow row → unsigned_abs own.level.alim ≤ 2 ^ 25 → IsMotion m → IsModerate (in_profile profile (first_view own m row) (second_view own m row))
moderate-resolving profiles.One own m row is alim motion =
    let few = few-halves m row is in
    record { alim = alim; first = moderate-seps profiles.One m (halves_to m.range row) 10 4096 motion few; later = moderate-seps profiles.One m (halves_to m.range row) 5 5632 motion few }
moderate-resolving profiles.Two own m row is alim motion =
    let few = few-left m row is in
    record { alim = alim; first = moderate-seps profiles.Two m (halves_left m row) 10 4096 motion few; later = moderate-seps profiles.Two m (halves_left m row) 5 5632 motion few }

moderate-tested : (own : OwnAircraft) (m : Motion) (o : Option Row) → IfSome o IsTableRow → unsigned_abs own.level.alim ≤ 2 ^ 25 → IsMotion m → IsModerate (option_map_or (resolving_view own m) o (plain_view true (shows_traffic own m) false))
moderate-tested own m None rows alim is = moderate-plain true (shows_traffic own m) false
moderate-tested own m (Some row) rows alim is = moderate-resolving own.profile own m row rows alim is

moderate-by : (own : OwnAircraft) (o : Option Motion) (resolves : Bool) → AreRows own → unsigned_abs own.level.alim ≤ 2 ^ 25 → IfSome o IsMotion → IsModerate (option_map_or (tested_view own) o (plain_view false false resolves))
moderate-by own None resolves rows alim is = moderate-plain false false resolves
moderate-by own (Some m) resolves rows alim is = moderate-tested own m own.resolution rows.resolution alim is

-- The view by tracks that keep their limits.
pub moderate-view : (own : OwnAircraft) (mine : TrackState) (tracks : Tracks) → AreRows own → unsigned_abs own.level.alim ≤ 2 ^ 25 → IfSome (motion_of mine tracks) IsMotion → IsModerate (view_by own mine tracks)
unfolding view_by
moderate-view own mine tracks rows alim is = moderate-by own (motion_of mine tracks) _ rows alim is
