-- Where the marks of the plan stand.
use Rattle.std.proofs.Common.{◌≡◌, ℕ, ◌+◌, ◌-◌, ◌*◌, ◌<◌, ◌≤◌, List, cond, [], ◌∷◌, ◌++◌, Option, Some, None, ℤ, pos, ◌-ℤ◌, ◌≤ℤ◌, length, unsigned_abs, refl, sym, ap, ap₂, ◌∙◌, subst, arith, inl, inr}
use Rattle.std.proofs.Math.Nat.{div-le_of_le-mul}
use Rattle.std.proofs.lemmas.Bool.{cases_Bool, cond-false, cond-true}
use Rattle.std.proofs.lemmas.Int.{ints}
use Rattle.std.specs.Prelude.{◌==◌, ◌%◌, IfSome, nat_le}
use Rattle.std.specs.List.{AllByRecursion}
use Rattle.acas_base.specs.Encounter.{Parts}
use Rattle.acas_text.specs.Hex.{hex}
use Rattle.flight.specs.Flight.{position}
use Rattle.flight.specs.declared.place.Place.{Place}
use Rattle.labels.specs.Labels.{LabelWords, name_of}
use Rattle.page_marks.proofs.Bounded.{AreSmall, Good, IsPlace, all-append, all-left, all-points, all-range, at-point, good-box, good-circle, good-line, good-words, is-point, wider}
use Rattle.page_marks.specs.Paints.{dashed_paint, ink, letters, line_paint, plain}
use Rattle.page_marks.specs.Places.{point_at}
use Rattle.page_marks.specs.Within.{AreInside, Bounds, IsMarkWithin, IsWithin}
use Rattle.plan_panel.proofs.Lengths.{across, is-length, upward, whole-is}
use Rattle.plan_panel.proofs.Showing.{holds-all}
use Rattle.plan_panel.specs.Laws.{AreShown, AreWithin, IsShare, box_from, part_from}
use Rattle.plan_panel.specs.Marks.{IsApproach, address_of, approach_marks, approach_title, bar_marks, bar_width, between_marks, cross_marks, dot, flight_marks, flight_paint, flight_points, flights, flown_marks, frame_marks, heading, length_for, length_text, line_marks, moment_text, plan_marks, start_marks, tick_marks, ticks}
use Rattle.plan_panel.specs.Names.{has_room, name_at, name_marks, name_y, placed_name}
use Rattle.plan_panel.specs.Places.{IsOn, box_bottom, box_height, box_left, box_top, box_width, placed, plan_point, view_of, x_in, y_in}
use Rattle.plan_panel.specs.declared.panel.Approach.{Approach}
use Rattle.plan_panel.specs.declared.view.Axis.{Axis}
use Rattle.plan_panel.specs.declared.view.View.{View}
use Rattle.plot_axes.proofs.Shares.{kept}
use Rattle.plot_axes.specs.Scale.{share}
use Rattle.plot_axes.specs.Time.{is_tick}
use Rattle.svg_text.specs.Fitting.{FitsMark, IsPoint}
use Rattle.svg_text.specs.Marks.{Mark, traced, worded}
use Rattle.svg_text.specs.declared.shapes.Anchor.TheVariants as anchors
use Rattle.svg_text.specs.declared.shapes.Dash.TheVariants as dashes
use Rattle.svg_text.specs.declared.shapes.Outline.TheVariants as outlines
use Rattle.svg_text.specs.declared.shapes.Weight.TheVariants as weights

-- ---- places

abbrev part-of : Axis → ℤ → ℕ
part-of axis value = unsigned_abs (value -ℤ axis.low)

placed-is : (size : ℕ) (axis : Axis) (value : ℤ) → placed size axis value ≡ share size axis.whole (part-of axis value)
unfolding placed
placed-is size axis value = let whole = whole-is axis.low axis.whole in rw whole refl

pub wide : (e : Parts) → 6076 ≤ (view_of e).x.whole
unfolding view_of
wide e = omega arith

tall : (e : Parts) → 1 ≤ (view_of e).y.whole
unfolding view_of
tall e = omega arith

-- A place stands in the box, and not too near to its edges.
pub record IsInBox (top x y : ℕ) : Type 0 where
  pub left : 800 ≤ x
  pub right : x ≤ 8000
  pub above : top + 800 ≤ y
  pub below : y ≤ top + 6200

pub in-box : (top : ℕ) (e : Parts) (own cycle : ℕ) → own < length e.crafts → 1 ≤ cycle → cycle ≤ e.cycles → IsInBox top (x_in e own cycle) (y_in top e own cycle)
unfolding x_in y_in
in-box top e own cycle within first last =
    let shown = holds-all e own cycle within first last in
    let x = placed-is 8000 (view_of e).x (position e own cycle).x in
    let y = placed-is 6000 (view_of e).y (position e own cycle).y in
    let some = wide e in
    let a = across (view_of e).x.whole (part-of (view_of e).x (position e own cycle).x) (omega (arith, some)) shown.x.least shown.x.most in
    let b = upward (view_of e).y.whole (part-of (view_of e).y (position e own cycle).y) (tall e) shown.y.least shown.y.most in
    let left = a.least_is in
    let right = a.most_is in
    let low = b.least_is in
    let high = b.most_is in
    record { left = omega (arith, x, left); right = omega (arith, x, right); above = omega (arith, y, high); below = omega (arith, y, low) }

pub x-of : (e : Parts) (own cycle at : ℕ) (view : View) (here : Place) → at ≡ placed 8000 view.x here.x → view ≡ view_of e → here ≡ position e own cycle → 400 + at ≡ x_in e own cycle
unfolding x_in
x-of e own cycle at view here value view_is here_is = ap (λ (n : ℕ). 400 + n) (value ∙ ap₂ (λ (v : View) (p : Place). placed 8000 v.x p.x) view_is here_is)

pub y-of : (top : ℕ) (e : Parts) (own cycle at : ℕ) (view : View) (here : Place) → at ≡ placed 6000 view.y here.y → view ≡ view_of e → here ≡ position e own cycle → top + 6500 - at ≡ y_in top e own cycle
unfolding y_in
y-of top e own cycle at view here value view_is here_is = ap (λ (n : ℕ). top + 6500 - n) (value ∙ ap₂ (λ (v : View) (p : Place). placed 6000 v.y p.y) view_is here_is)

-- ---- shares

shares : (size whole part : ℕ) → 1 ≤ whole → part ≤ whole → IsShare size whole part (share size whole part)
shares size whole part some on = let k = kept size whole part part some (omega arith) on in record { not_past = k.not_past; near = k.near }

share-is : (size whole part at : ℕ) → at ≡ share size whole part → 1 ≤ whole → part ≤ whole → IsShare size whole part at
share-is size whole part at same some on = subst (IsShare size whole part) (sym same) (shares size whole part some on)

farther : (low one other : ℤ) → low ≤ℤ one → one ≤ℤ other → unsigned_abs (one -ℤ low) ≤ unsigned_abs (other -ℤ low)
farther low one other first order = omega (arith, ints)

placed-order : (size : ℕ) (axis : Axis) (one other : ℤ) → 1 ≤ axis.whole → IsOn axis one → IsOn axis other → one ≤ℤ other → placed size axis one ≤ placed size axis other
placed-order size axis one other some a b order =
    let most = b.most in
    let it = (kept size axis.whole (part-of axis one) (part-of axis other) some (farther axis.low one other a.low order) (omega arith)).in_order in
    let x = placed-is size axis one in
    let y = placed-is size axis other in
    omega (arith, it, x, y)

scales : (e : Parts) → box_height * (view_of e).x.whole ≡ box_width * (view_of e).y.whole
unfolding view_of
scales e = omega arith

pub are-shown : (top : ℕ) (e : Parts) → AreShown top e
unfolding x_in y_in
are-shown top e =
    let wide_x = wide e in
    let some_x : 1 ≤ (view_of e).x.whole = omega (arith, wide_x) in
    let some_y = tall e in
    record {
      one_scale = scales e;
      to_east = λ own cycle within first last. (
          let on = (holds-all e own cycle within first last).x in
          let most = on.most in
          let same = placed-is 8000 (view_of e).x (position e own cycle).x in
          (on.low, share-is 8000 (view_of e).x.whole (part-of (view_of e).x (position e own cycle).x) (x_in e own cycle - box_left) (omega (arith, same)) some_x (omega arith)));
      to_north = λ own cycle within first last. (
          let on = (holds-all e own cycle within first last).y in
          let most = on.most in
          let same = placed-is 6000 (view_of e).y (position e own cycle).y in
          let high = (upward (view_of e).y.whole (part-of (view_of e).y (position e own cycle).y) some_y on.least on.most).most_is in
          (on.low, share-is 6000 (view_of e).y.whole (part-of (view_of e).y (position e own cycle).y) (box_bottom top - y_in top e own cycle) (omega (arith, same, high)) some_y (omega arith)));
      eastward = λ one other cycle moment a b c d f g order. (
          let it = placed-order 8000 (view_of e).x (position e one cycle).x (position e other moment).x some_x (holds-all e one cycle a c d).x (holds-all e other moment b f g).x order in
          omega (arith, it));
      northward = λ one other cycle moment a b c d f g order. (
          let it = placed-order 6000 (view_of e).y (position e one cycle).y (position e other moment).y some_y (holds-all e one cycle a c d).y (holds-all e other moment b f g).y order in
          omega (arith, it));
    }

-- ---- marks in the box

small-box : (top : ℕ) → top ≤ 40000 → AreSmall (box_from top)
small-box top most = record { right = omega arith; bottom = omega arith }

place : (top x y : ℕ) → 400 ≤ x → x ≤ 8400 → top + 500 ≤ y → y ≤ top + 6500 → IsPlace (box_from top) x y
place top x y left right above below = record { left = left; right = omega arith; top = above; bottom = below }

placed-in : (top x y : ℕ) → IsInBox top x y → IsPlace (box_from top) x y
placed-in top x y is =
    let left = is.left in
    let right = is.right in
    let above = is.above in
    let below = is.below in
    place top x y (omega arith) (omega arith) (omega arith) (omega arith)

good-dot : (top x y : ℕ) (title : List ℕ) → top ≤ 40000 → IsInBox top x y → Good (box_from top) (dot x y title)
good-dot top x y title most is =
    let left = is.left in
    let right = is.right in
    let above = is.above in
    let below = is.below in
    good-circle (box_from top) x y 50 (plain ink) title tt (small-box top most) (omega arith) (omega arith) (omega arith) (omega arith) (omega arith)

-- What is drawn of an aircraft of the encounter.
record IsCraft (e : Parts) (own : ℕ) : Type 0 where
  within : own < length e.crafts
  begun : 1 ≤ e.cycles

good-trace : (top : ℕ) (e : Parts) (own : ℕ) (title : List ℕ) → top ≤ 40000 → IsCraft e own → Good (box_from top) (traced outlines.Open (flight_points top e own) (flight_paint own) title)
unfolding plan_point
good-trace top e own title most is =
    let bounds = box_from top in
    let places : (cycle : ℕ) → 1 ≤ cycle → cycle < 1 + e.cycles → IsPlace bounds (x_in e own cycle) (y_in top e own cycle) =
    λ cycle first last. placed-in top (x_in e own cycle) (y_in top e own cycle) (in-box top e own cycle is.within first (omega arith)) in (
      all-points (IsWithin bounds 0) (plan_point top e own) 1 e.cycles (λ cycle first last. at-point bounds (x_in e own cycle) (y_in top e own cycle) (places cycle first last)),
      (all-points IsPoint (plan_point top e own) 1 e.cycles (λ cycle first last. is-point bounds (x_in e own cycle) (y_in top e own cycle) (small-box top most) (places cycle first last)), omega arith),
    )

good-line-of : (top : ℕ) (e : Parts) (own : ℕ) (title : List ℕ) → top ≤ 40000 → IsCraft e own → AllByRecursion (Good (box_from top)) (line_marks top e own title)
unfolding line_marks
good-line-of top e own title most is =
    let P = AllByRecursion (Good (box_from top)) in
    let one = dot (x_in e own 1) (y_in top e own 1) title ∷ [] in
    let many = traced outlines.Open (flight_points top e own) (flight_paint own) title ∷ [] in
    elim (cases_Bool (e.cycles == 1)) [
      | inl alone ↦ subst P (sym (cond-true (e.cycles == 1) one many alone)) (good-dot top (x_in e own 1) (y_in top e own 1) title most (in-box top e own 1 is.within (omega arith) is.begun), tt)
      | inr more ↦ subst P (sym (cond-false (e.cycles == 1) one many more)) (good-trace top e own title most is, tt)
    ]

good-tick : (top : ℕ) (e : Parts) (start : Option ℕ) (own address cycle : ℕ) → top ≤ 40000 → IsCraft e own → 1 ≤ cycle → cycle < 1 + e.cycles → AllByRecursion (Good (box_from top)) (tick_marks top e start own address cycle)
unfolding tick_marks
good-tick top e start own address cycle most is first last =
    let P = AllByRecursion (Good (box_from top)) in
    let one = dot (x_in e own cycle) (y_in top e own cycle) (moment_text address cycle) ∷ [] in
    elim (cases_Bool (is_tick e.cycles start cycle)) [
      | inl met ↦ subst P (sym (cond-true (is_tick e.cycles start cycle) one [] met)) (good-dot top (x_in e own cycle) (y_in top e own cycle) (moment_text address cycle) most (in-box top e own cycle is.within first (omega arith)), tt)
      | inr unmet ↦ subst P (sym (cond-false (is_tick e.cycles start cycle) one [] unmet)) tt
    ]

good-start : (top x y address : ℕ) → top ≤ 40000 → IsInBox top x y → AllByRecursion (Good (box_from top)) (start_marks x y address)
good-start top x y address most is =
    let left = is.left in
    let right = is.right in
    let above = is.above in
    let below = is.below in
    (good-circle (box_from top) x y 80 (line_paint ink 25) (moment_text address 1) (omega arith) (small-box top most) (omega arith) (omega arith) (omega arith) (omega arith) (omega arith), tt)

-- Names stand in the box as well.
record IsNameHeight (top y : ℕ) : Type 0 where
  above : top + 500 ≤ y
  below : y ≤ top + 6500

name-height : (top y own : ℕ) → top + 800 ≤ y → y ≤ top + 6200 → IsNameHeight top (name_y y own)
unfolding name_y
name-height top y own above below = elim (cases_Bool (own % 2 == 0)) [
  | inl even ↦ subst (IsNameHeight top) (sym (cond-true (own % 2 == 0) (y - 100) (y + 260) even)) (record { above = omega arith; below = omega arith })
  | inr odd ↦ subst (IsNameHeight top) (sym (cond-false (own % 2 == 0) (y - 100) (y + 260) odd)) (record { above = omega arith; below = omega arith })
]

good-name : (top x y : ℕ) (name : List ℕ) → top ≤ 40000 → 800 ≤ x → x ≤ 8000 → IsNameHeight top y → AllByRecursion (Good (box_from top)) (name_marks x y name)
unfolding name_marks
good-name top x y name most left right is =
    let bounds = box_from top in
    let P = AllByRecursion (Good bounds) in
    let right_of = worded (letters (point_at (x + 120) y) 240 anchors.Start weights.Regular) name [] ∷ [] in
    let left_of = worded (letters (point_at (x - 120) y) 240 anchors.End weights.Regular) name [] ∷ [] in
    elim (cases_Bool (nat_le x 7100)) [
      | inl far ↦ subst P (sym (cond-true (nat_le x 7100) right_of left_of far)) (good-words bounds (x + 120) y 240 anchors.Start weights.Regular name [] (omega arith) (small-box top most) (place top (x + 120) y (omega arith) (omega arith) is.above is.below), tt)
      | inr near ↦ subst P (sym (cond-false (nat_le x 7100) right_of left_of near)) (good-words bounds (x - 120) y 240 anchors.End weights.Regular name [] (omega arith) (small-box top most) (place top (x - 120) y (omega arith) (omega arith) is.above is.below), tt)
    ]

good-name-at : (top : ℕ) (e : Parts) (own cycle : ℕ) (name : List ℕ) → top ≤ 40000 → IsCraft e own → 1 ≤ cycle → cycle ≤ e.cycles → AllByRecursion (Good (box_from top)) (name_at top e own cycle name)
good-name-at top e own cycle name most is first last =
    let at = in-box top e own cycle is.within first last in
    good-name top (x_in e own cycle) (name_y (y_in top e own cycle) own) name most at.left at.right (name-height top (y_in top e own cycle) own at.above at.below)

good-placed : (top : ℕ) (e : Parts) (own : ℕ) (name : List ℕ) → top ≤ 40000 → IsCraft e own → AllByRecursion (Good (box_from top)) (placed_name top e own name)
unfolding placed_name
good-placed top e own name most is =
    let P = AllByRecursion (Good (box_from top)) in
    let end = name_at top e own e.cycles name in
    let start = name_at top e own 1 name in
    let other : List Mark = cond (has_room top e own 1) start [] in
    elim (cases_Bool (has_room top e own e.cycles)) [
      | inl met ↦ subst P (sym (cond-true (has_room top e own e.cycles) end other met)) (good-name-at top e own e.cycles name most is is.begun (omega arith))
      | inr unmet ↦ subst P (sym (cond-false (has_room top e own e.cycles) end other unmet)) (elim (cases_Bool (has_room top e own 1)) [
        | inl room ↦ subst P (sym (cond-true (has_room top e own 1) start [] room)) (good-name-at top e own 1 name most is (omega arith) is.begun)
        | inr none ↦ subst P (sym (cond-false (has_room top e own 1) start [] none)) tt
      ])
    ]

good-flight : (top : ℕ) (e : Parts) (start : Option ℕ) (labels : LabelWords) (own : ℕ) → top ≤ 40000 → IsCraft e own → AllByRecursion (Good (box_from top)) (flight_marks top e start labels own)
unfolding flight_marks
good-flight top e start labels own most is =
    let P = Good (box_from top) in
    let address = address_of e own in
    let name = name_of labels address in
    let begin = in-box top e own 1 is.within (omega arith) is.begun in
    let line = good-line-of top e own (hex 6 address) most is in
    let dots = all-range P (tick_marks top e start own address) 1 e.cycles (λ cycle first last. good-tick top e start own address cycle most is first last) in
    let circle = good-start top (x_in e own 1) (y_in top e own 1) address most begin in
    let named = good-placed top e own name most is in
    all-append P (line_marks top e own (hex 6 address)) _ line
    (all-append P (ticks top e start own address) _ dots
    (all-append P (start_marks (x_in e own 1) (y_in top e own 1) address) _ circle named))

good-cross : (top x y : ℕ) (title : List ℕ) → top ≤ 40000 → IsInBox top x y → AllByRecursion (Good (box_from top)) (cross_marks x y title)
good-cross top x y title most is =
    let bounds = box_from top in
    let left = is.left in
    let right = is.right in
    let above = is.above in
    let below = is.below in
    let falling = good-line bounds (x - 90) (y - 90) (x + 90) (y + 90) (line_paint ink 30) title (omega arith) (small-box top most) (place top (x - 90) (y - 90) (omega arith) (omega arith) (omega arith) (omega arith)) (place top (x + 90) (y + 90) (omega arith) (omega arith) (omega arith) (omega arith)) in
    let rising = good-line bounds (x - 90) (y + 90) (x + 90) (y - 90) (line_paint ink 30) title (omega arith) (small-box top most) (place top (x - 90) (y + 90) (omega arith) (omega arith) (omega arith) (omega arith)) (place top (x + 90) (y - 90) (omega arith) (omega arith) (omega arith) (omega arith)) in
    (falling, (rising, tt))

good-approach : (top : ℕ) (e : Parts) (start : Option ℕ) (nearest : Option Approach) → top ≤ 40000 → IfSome nearest (IsApproach e) → AllByRecursion (Good (box_from top)) (approach_marks top e start nearest)
unfolding approach_marks plan_point
good-approach top e start None most is = tt
good-approach top e start (Some it) most is =
    let bounds = box_from top in
    let P = Good bounds in
    let title = approach_title e start it in
    let one = in-box top e it.one it.cycle is.one is.begun is.in_run in
    let other = in-box top e it.other it.cycle is.other is.begun is.in_run in
    let line = good-line bounds (x_in e it.one it.cycle) (y_in top e it.one it.cycle) (x_in e it.other it.cycle) (y_in top e it.other it.cycle) (dashed_paint ink 20 dashes.Dotted) title (omega arith) (small-box top most) (placed-in top (x_in e it.one it.cycle) (y_in top e it.one it.cycle) one) (placed-in top (x_in e it.other it.cycle) (y_in top e it.other it.cycle) other) in
    let begin = cross_marks (x_in e it.one it.cycle) (y_in top e it.one it.cycle) title in
    let end = cross_marks (x_in e it.other it.cycle) (y_in top e it.other it.cycle) title in
    let dots = between_marks (plan_point top e it.one it.cycle) (plan_point top e it.other it.cycle) title in
    all-append P begin (end ++ dots) (good-cross top (x_in e it.one it.cycle) (y_in top e it.one it.cycle) title most one)
    (all-append P end dots (good-cross top (x_in e it.other it.cycle) (y_in top e it.other it.cycle) title most other)
    (line, tt))

good-flown : (top : ℕ) (e : Parts) (start : Option ℕ) (labels : LabelWords) (nearest : Option Approach) → top ≤ 40000 → 1 ≤ e.cycles → IfSome nearest (IsApproach e) → AllByRecursion (Good (box_from top)) (flown_marks top e start labels nearest)
good-flown top e start labels nearest most some is =
    let P = Good (box_from top) in
    let crafts = all-range P (flight_marks top e start labels) 0 (length e.crafts) (λ own first last. good-flight top e start labels own most (record { within = omega arith; begun = some })) in
    all-append P (flights top e start labels) (approach_marks top e start nearest) crafts (good-approach top e start nearest most is)

-- ---- marks of the panel

part-place : (top x y : ℕ) → 400 ≤ x → x ≤ 8400 → top ≤ y → y ≤ top + 6600 → IsPlace (part_from top) x y
part-place top x y left right above below = record { left = left; right = right; top = above; bottom = below }

small-part : (top : ℕ) → top ≤ 40000 → AreSmall (part_from top)
small-part top most = record { right = omega arith; bottom = omega arith }

good-frame : (top : ℕ) → top ≤ 40000 → AllByRecursion (Good (part_from top)) (frame_marks top)
good-frame top most =
    let bounds = part_from top in
    let words = good-words bounds box_left (top + 350) 260 anchors.Start weights.Bold heading [] (omega arith) (small-part top most) (part-place top box_left (top + 350) (omega arith) (omega arith) (omega arith) (omega arith)) in
    let edge = good-box bounds box_left (box_top top) box_width box_height (line_paint ink 15) [] (omega arith) (small-part top most) (part-place top box_left (box_top top) (omega arith) (omega arith) (omega arith) (omega arith)) (part-place top (box_left + box_width) (box_top top + box_height) (omega arith) (omega arith) (omega arith) (omega arith)) in
    (words, (edge, tt))

-- The scale is no longer than 3/8 of the width.
bar-short : (whole : ℕ) → 6076 ≤ whole → bar_width whole ≤ 3000
unfolding bar_width
bar-short whole least =
    let is = is-length whole least in
    let short = is.short in
    let end : unsigned_abs (pos whole -ℤ pos 0) ≡ whole = omega (arith, ints) in
    let part : unsigned_abs (pos (length_for whole) -ℤ pos 0) ≡ length_for whole = omega (arith, ints) in
    rw end (rw part (div-le_of_le-mul whole (omega (arith, short))))

good-bar : (top whole : ℕ) → top ≤ 40000 → 6076 ≤ whole → AllByRecursion (Good (part_from top)) (bar_marks top whole)
good-bar top whole most least =
    let bounds = part_from top in
    let short = bar-short whole least in
    let words = length_text (length_for whole) in
    let x = 8400 - bar_width whole in
    let line = good-line bounds x (top + 270) 8400 (top + 270) (line_paint ink 50) words (omega arith) (small-part top most) (part-place top x (top + 270) (omega arith) (omega arith) (omega arith) (omega arith)) (part-place top 8400 (top + 270) (omega arith) (omega arith) (omega arith) (omega arith)) in
    let text = good-words bounds (x - 120) (top + 350) 240 anchors.End weights.Regular words [] (omega arith) (small-part top most) (part-place top (x - 120) (top + 350) (omega arith) (omega arith) (omega arith) (omega arith)) in
    (line, (text, tt))

inside : (top : ℕ) → AreInside (box_from top) (part_from top)
inside top = record { left = omega arith; top = omega arith; right = omega arith; bottom = omega arith }

all-good : (inner outer : Bounds) → AreInside inner outer → (marks : List Mark) → AllByRecursion (Good inner) marks → AllByRecursion (Good outer) marks
all-good inner outer is [] g = tt
all-good inner outer is (mark ∷ marks) g = ((wider inner outer is mark g.0.0, g.0.1), all-good inner outer is marks g.1)

pub are-within : (top : ℕ) (e : Parts) (start : Option ℕ) (labels : LabelWords) (nearest : Option Approach) → top ≤ 40000 → 1 ≤ e.cycles → IfSome nearest (IsApproach e) → AreWithin top e start labels nearest
unfolding plan_marks
are-within top e start labels nearest most some is =
    let P = Good (part_from top) in
    let marks = flown_marks top e start labels nearest in
    let bar = bar_marks top (view_of e).x.whole in
    let flown = good-flown top e start labels nearest most some is in
    record {
      panel = all-append P (frame_marks top) (bar ++ marks) (good-frame top most)
          (all-append P bar marks (good-bar top (view_of e).x.whole most (wide e))
          (all-good (box_from top) (part_from top) (inside top) marks flown));
      flown = all-left (IsMarkWithin (box_from top)) FitsMark marks flown;
    }
