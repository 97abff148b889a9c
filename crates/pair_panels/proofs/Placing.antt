-- Where the marks of a panel stand.
use Rattle.std.proofs.Common.{◌≡◌, ℕ, ◌+◌, ◌-◌, ◌*◌, ◌<◌, ◌≤◌, List, [], ◌∷◌, pos, ◌-ℤ◌, unsigned_abs, refl, sym, ap, ◌∙◌, subst, arith, inl, inr}
use Rattle.std.proofs.lemmas.Bool.{cases_Bool, cond-false, cond-true}
use Rattle.std.proofs.lemmas.Int.{ints}
use Rattle.std.proofs.Math.Nat.{add-mul, mul-le-mul_right}
use Rattle.std.specs.Prelude.{◌==◌}
use Rattle.std.specs.List.{AllByRecursion}
use Rattle.acas_base.specs.Encounter.{Parts}
use Rattle.labels.specs.Labels.{LabelWords}
use Rattle.page_marks.proofs.Bounded.{AreSmall, Good, IsPlace, all-append, all-points, all-range, at-point, good-circle, good-line, good-words, is-point}
use Rattle.page_marks.proofs.Ticking.{begins, good-dot, good-frame, good-ticks, good-value-tick}
use Rattle.page_marks.specs.Frame.{dot_mark, frame_marks}
use Rattle.page_marks.specs.Paints.{dashed_paint, ink, line_paint}
use Rattle.page_marks.specs.Ticks.{HoldsTicks, IsHeight, time_ticks}
use Rattle.page_marks.specs.Within.{IsWithin}
use Rattle.pair_panels.proofs.Axis.{holds, holds-all}
use Rattle.pair_panels.specs.Distances.{aim_of, distance_in, end_of, greatest, ticks_of}
use Rattle.pair_panels.specs.Laws.{AreShown, AreWithin, IsShown, bounds_from}
use Rattle.pair_panels.specs.Nearest.{IsPair}
use Rattle.pair_panels.specs.Panel.{aim_at, aim_marks, aim_text, closest_marks, closest_of, curve, distance_marks, heading_of, line_mark, plot_bottom, plot_height, plot_top, tick_place, tick_text, value_point, value_tick, value_ticks, value_y}
use Rattle.pair_panels.specs.declared.distance.Distance.{Distance}
use Rattle.pair_panels.specs.declared.ticks.Ticks.{Ticks}
use Rattle.pair_panels.specs.declared.nearest.NearPair.{NearPair}
use Rattle.plot_axes.proofs.Shares.{kept}
use Rattle.plot_axes.specs.Scale.{share}
use Rattle.plot_axes.specs.Time.{begin_of}
use Rattle.svg_text.specs.Fitting.{IsPoint}
use Rattle.svg_text.specs.declared.shapes.Anchor.TheVariants as anchors
use Rattle.svg_text.specs.declared.shapes.Dash.TheVariants as dashes
use Rattle.svg_text.specs.declared.shapes.Weight.TheVariants as weights

small : (top : ℕ) → top ≤ 40000 → AreSmall (bounds_from top)
small top most = record { right = omega arith; bottom = omega arith }

place : (top x y : ℕ) → x ≤ 20000 → top ≤ y → y ≤ top + 3400 → IsPlace (bounds_from top) x y
place top x y wide low tall = record { left = omega arith; right = omega arith; top = omega arith; bottom = omega arith }

-- ---- heights

-- A distance of the axis is a part of its end.
pub record IsPart (end value : ℕ) : Type 0 where
  pub whole : unsigned_abs (pos end -ℤ pos 0) ≡ end
  pub part : unsigned_abs (pos value -ℤ pos 0) ≡ value

is-part : (end value : ℕ) → IsPart end value
is-part end value = record { whole = omega (arith, ints); part = omega (arith, ints) }

y-is : (top value : ℕ) (ticks : Ticks) → value_y top ticks value ≡ plot_bottom top - share 2300 (end_of ticks) value
unfolding value_y
y-is top value ticks =
    let p = is-part (end_of ticks) value in
    let whole = p.whole in
    let part = p.part in
    rw whole (rw part refl)

shows : (top value : ℕ) (ticks : Ticks) → 0 < end_of ticks → value ≤ end_of ticks → IsShown top (end_of ticks) value (value_y top ticks value)
shows top value ticks some on =
    let end = end_of ticks in
    let y = y-is top value ticks in
    let k = kept 2300 end value value some (omega arith) on in
    let within = k.within in
    let sum : (plot_bottom top - share 2300 end value) * end + share 2300 end value * end ≡ plot_bottom top * end = sums (plot_bottom top) (share 2300 end value) end (omega (arith, within)) in
    let not_past = k.not_past in
    let near = k.near in
    rw y (record {
      above = omega (arith, within);
      below = omega arith;
      not_past = omega (arith, sum, not_past);
      near = omega (arith, sum, near, add-mul (share 2300 end value) 1 end, add-mul (plot_bottom top) 1 end);
    })
  where
    sums : (a b c : ℕ) → b ≤ a → (a - b) * c + b * c ≡ a * c
    sums a b c h = sym (add-mul (a - b) b c) ∙ ap (λ n. n * c) (omega arith)

rises : (top less more : ℕ) (ticks : Ticks) → 0 < end_of ticks → less ≤ more → more ≤ end_of ticks → value_y top ticks more ≤ value_y top ticks less
rises top less more ticks some order on =
    let one = y-is top less ticks in
    let two = y-is top more ticks in
    let k = (kept 2300 (end_of ticks) less more some order on).in_order in
    omega (arith, one, two, k)

some-end : (e : Parts) (distance : Distance) (pair : NearPair) → 0 < end_of (ticks_of e distance pair)
unfolding ticks_of
some-end e distance pair = (let it = holds distance (greatest e distance pair (aim_of e distance pair) e.cycles) in omega (arith, it))

pub are-shown : (top : ℕ) (e : Parts) (distance : Distance) (pair : NearPair) → AreShown top e distance pair
are-shown top e distance pair =
    let ticks = ticks_of e distance pair in
    let some = some-end e distance pair in
    let all = holds-all e distance pair in
    record {
      each = λ cycle first last. shows top (distance_in e distance pair cycle) ticks some (all.each cycle first last);
      aim = shows top (aim_of e distance pair) ticks some all.aim;
      in_order = λ less more order on. rises top less more ticks some order on;
    }

-- ---- marks

-- A distance stands in the box.
y-place : (top x value : ℕ) (ticks : Ticks) → x ≤ 20000 → 0 < end_of ticks → value ≤ end_of ticks → IsPlace (bounds_from top) x (value_y top ticks value)
y-place top x value ticks wide some on =
    let shown = shows top value ticks some on in
    let above = shown.above in
    let below = shown.below in
    place top x (value_y top ticks value) wide (omega arith) (omega arith)

good-tick : (top : ℕ) (distance : Distance) (ticks : Ticks) (number : ℕ) → top ≤ 40000 → 0 < end_of ticks → number < 0 + (ticks.count + 1) → AllByRecursion (Good (bounds_from top)) (value_tick top distance ticks number)
unfolding value_tick
good-tick top distance ticks number most some few =
    let value = number * ticks.step in
    let on : value ≤ end_of ticks = mul-le-mul_right ticks.step (let it = few in omega (arith, it)) in
    let y = value_y top ticks value in
    let shown = shows top value ticks some on in
    let above = shown.above in
    let below = shown.below in
    good-value-tick (bounds_from top) y (tick_text distance value) (small top most) (y-place top 2000 value ticks (omega arith) some on) (y-place top 17800 value ticks (omega arith) some on) (place top 1880 (y + 80) (omega arith) (omega arith) (omega arith))

-- The ticks of time.
height : (top y : ℕ) → top ≤ y → y ≤ top + 3400 → IsHeight (bounds_from top) y
height top y upper lower = record { above = upper; below = lower }

holds-ticks : (top : ℕ) → top ≤ 40000 → HoldsTicks (bounds_from top) (tick_place top)
holds-ticks top most = record {
  left = omega arith;
  right = omega arith;
  top = height top (plot_top top) (omega arith) (omega arith);
  bottom = height top (plot_bottom top) (omega arith) (omega arith);
  label = height top (plot_bottom top + 300) (omega arith) (omega arith);
  size = omega arith;
  wide = omega arith;
  tall = omega arith;
}

good-aim : (top : ℕ) (ticks : Ticks) (aim : ℕ) → top ≤ 40000 → 0 < end_of ticks → aim ≤ end_of ticks → AllByRecursion (Good (bounds_from top)) (aim_marks top ticks aim)
unfolding aim_marks
good-aim top ticks aim most some on =
    let bounds = bounds_from top in
    let y = value_y top ticks aim in
    let shown = shows top aim ticks some on in
    let above = shown.above in
    let below = shown.below in
    elim (cases_Bool (aim == 0)) [
      | inl none ↦ subst (AllByRecursion (Good bounds)) (sym (cond-true (aim == 0) [] (aim_at y (aim_text aim)) none)) tt
      | inr there ↦
          subst (AllByRecursion (Good bounds)) (sym (cond-false (aim == 0) [] (aim_at y (aim_text aim)) there)) (
            good-line bounds 2000 y 17800 y (dashed_paint ink 20 dashes.Long) (aim_text aim) (omega arith) (small top most) (y-place top 2000 aim ticks (omega arith) some on) (y-place top 17800 aim ticks (omega arith) some on),
            (good-words bounds 17900 (y + 80) 240 anchors.Start weights.Regular (aim_text aim) [] (omega arith) (small top most) (place top 17900 (y + 80) (omega arith) (omega arith) (omega arith)), tt),
          )
    ]

good-closest : (top x y : ℕ) (title : List ℕ) → top ≤ 40000 → 2000 ≤ x → x ≤ 17800 → plot_top top ≤ y → y ≤ plot_bottom top → AllByRecursion (Good (bounds_from top)) (closest_marks top x y title)
good-closest top x y title most left right above below =
    let bounds = bounds_from top in
    let line = good-line bounds x (plot_top top) x (plot_bottom top) (dashed_paint ink 15 dashes.Dotted) title (omega arith) (small top most) (place top x (plot_top top) (omega arith) (omega arith) (omega arith)) (place top x (plot_bottom top) (omega arith) (omega arith) (omega arith)) in
    let circle = good-circle bounds x y 80 (line_paint ink 25) title (omega arith) (small top most) (omega arith) (omega arith) (omega arith) (omega arith) (omega arith) in
    (line, (circle, tt))

-- Where the distance of a cycle stands.
value-place : (top : ℕ) (e : Parts) (distance : Distance) (pair : NearPair) (cycle : ℕ) → 1 ≤ cycle → cycle ≤ e.cycles → IsPlace (bounds_from top) (begin_of e.cycles cycle) (value_y top (ticks_of e distance pair) (distance_in e distance pair cycle))
value-place top e distance pair cycle first last =
    let right = begins e.cycles cycle (omega arith) (omega arith) in
    let all = holds-all e distance pair in
    y-place top (begin_of e.cycles cycle) (distance_in e distance pair cycle) (ticks_of e distance pair) (omega (arith, right)) (some-end e distance pair) (all.each cycle first last)

good-through : (top : ℕ) (e : Parts) (distance : Distance) (pair : NearPair) (title : List ℕ) → top ≤ 40000 → Good (bounds_from top) (line_mark top e distance pair (ticks_of e distance pair) title)
unfolding value_point
good-through top e distance pair title most =
    let bounds = bounds_from top in
    let ticks = ticks_of e distance pair in
    let places : (cycle : ℕ) → 1 ≤ cycle → cycle < 1 + e.cycles → IsPlace bounds (begin_of e.cycles cycle) (value_y top ticks (distance_in e distance pair cycle)) =
    λ cycle first last. value-place top e distance pair cycle first (omega arith) in (
      all-points (IsWithin bounds 0) (value_point top e distance pair ticks) 1 e.cycles (λ cycle first last. at-point bounds (begin_of e.cycles cycle) (value_y top ticks (distance_in e distance pair cycle)) (places cycle first last)),
      (all-points IsPoint (value_point top e distance pair ticks) 1 e.cycles (λ cycle first last. is-point bounds (begin_of e.cycles cycle) (value_y top ticks (distance_in e distance pair cycle)) (small top most) (places cycle first last)), omega arith),
    )

-- In a run of one cycle.
good-point : (top : ℕ) (e : Parts) (distance : Distance) (pair : NearPair) (title : List ℕ) → top ≤ 40000 → 1 ≤ e.cycles → Good (bounds_from top) (dot_mark ink (value_point top e distance pair (ticks_of e distance pair) 1) title)
unfolding value_point
good-point top e distance pair title most some =
    let ticks = ticks_of e distance pair in
    let all = holds-all e distance pair in
    let x = begin_of e.cycles 1 in
    let y = value_y top ticks (distance_in e distance pair 1) in
    let right = begins e.cycles 1 some (omega arith) in
    let shown = shows top (distance_in e distance pair 1) ticks (some-end e distance pair) (all.each 1 (omega arith) some) in
    let above = shown.above in
    let below = shown.below in
    good-dot (bounds_from top) x y ink title (small top most) (omega (arith, right)) (omega (arith, right)) (omega arith) (omega arith)

good-curve : (top : ℕ) (e : Parts) (distance : Distance) (pair : NearPair) (title : List ℕ) → top ≤ 40000 → 1 ≤ e.cycles → Good (bounds_from top) (curve top e distance pair (ticks_of e distance pair) title)
unfolding curve
good-curve top e distance pair title most some =
    let bounds = bounds_from top in
    let ticks = ticks_of e distance pair in
    let dot = dot_mark ink (value_point top e distance pair ticks 1) title in
    let line = line_mark top e distance pair ticks title in
    elim (cases_Bool (e.cycles == 1)) [
      | inl one ↦ subst (Good bounds) (sym (cond-true (e.cycles == 1) dot line one)) (good-point top e distance pair title most some)
      | inr more ↦ subst (Good bounds) (sym (cond-false (e.cycles == 1) dot line more)) (good-through top e distance pair title most)
    ]

pub are-within : (top : ℕ) (e : Parts) (labels : LabelWords) (distance : Distance) (pair : NearPair) → top ≤ 40000 → IsPair e pair → AreWithin top e labels distance pair
unfolding distance_marks
are-within top e labels distance pair most is =
    let P = Good (bounds_from top) in
    let ticks = ticks_of e distance pair in
    let some = some-end e distance pair in
    let all = holds-all e distance pair in
    let bounds = bounds_from top in
    let heading = heading_of e labels distance pair in
    let closest = closest_of e labels distance pair in
    let value = distance_in e distance pair pair.cycle in
    let shown = shows top value ticks some (all.each pair.cycle is.begun is.in_run) in
    let begun = is.begun in
    let in_run = is.in_run in
    let right = begins e.cycles pair.cycle (omega arith) (omega arith) in
    let values = all-range P (value_tick top distance ticks) 0 (ticks.count + 1) (λ k first last. good-tick top distance ticks k most some last) in
    let cycles = good-ticks bounds e.cycles labels.start (tick_place top) (holds-ticks top most) in
    let frame = good-frame bounds top plot_height heading closest (small top most) (omega arith) (omega arith) (omega arith) (omega arith) in
    let aim = good-aim top ticks (aim_of e distance pair) most some all.aim in
    let nearest = good-closest top (begin_of e.cycles pair.cycle) (value_y top ticks value) closest most (omega arith) right shown.above shown.below in
    let line = good-curve top e distance pair heading most (omega (arith, begun, in_run)) in
    all-append P (value_ticks top distance ticks) _ values
    (all-append P (time_ticks e.cycles labels.start (tick_place top)) _ cycles
    (all-append P (frame_marks top plot_height heading closest) _ frame
    (all-append P (aim_marks top ticks (aim_of e distance pair)) _ aim
    (all-append P (closest_marks top (begin_of e.cycles pair.cycle) (value_y top ticks value) closest) (curve top e distance pair ticks heading ∷ []) nearest
    (line, tt)))))
