-- Where the ticks, the frame and the dots of a panel lie.
use Rattle.std.proofs.Common.{ℕ, ◌+◌, ◌-◌, ◌<◌, ◌≤◌, List, [], Option, sym, subst, arith, inl, inr}
use Rattle.std.proofs.lemmas.Bool.{cases_Bool, cond-false, cond-true}
use Rattle.std.specs.List.{AllByRecursion}
use Rattle.page_marks.proofs.Bounded.{AreSmall, Good, IsPlace, all-range, good-box, good-circle, good-line, good-words}
use Rattle.page_marks.specs.Frame.{dot_mark, frame_marks}
use Rattle.page_marks.specs.Paints.{grid, ink, line_paint, plain}
use Rattle.page_marks.specs.Places.{point_at}
use Rattle.page_marks.specs.Ticks.{AreTicksWithin, HoldsTicks, IsHeight, time_tick, time_tick_at, value_tick_at}
use Rattle.page_marks.specs.Within.{Bounds}
use Rattle.page_marks.specs.declared.tick_place.TickPlace.{TickPlace}
use Rattle.plot_axes.proofs.Shares.{kept}
use Rattle.plot_axes.specs.Time.{begin_of, is_tick, label_of}
use Rattle.svg_text.specs.declared.shapes.Anchor.TheVariants as anchors
use Rattle.svg_text.specs.declared.shapes.Color.{Color}
use Rattle.svg_text.specs.declared.shapes.Weight.TheVariants as weights

-- Each cycle begins on the axis.
pub begins : (cycles cycle : ℕ) → 1 ≤ cycles → cycle ≤ cycles + 1 → begin_of cycles cycle ≤ 17800
begins cycles cycle some last = (let it = (kept 15800 cycles 0 (cycle - 1) (omega arith) (omega arith) (omega arith)).within in omega (arith, it))

on-axis : (bounds : Bounds) (place : TickPlace) (x y : ℕ) → HoldsTicks bounds place → 2000 ≤ x → x ≤ 17800 → IsHeight bounds y → IsPlace bounds x y
on-axis bounds place x y holds left right at =
    let a = holds.left in
    let b = holds.right in
    let c = at.above in
    let d = at.below in
    record { left = omega arith; right = omega arith; top = omega arith; bottom = omega arith }

good-time-tick : (bounds : Bounds) (cycles : ℕ) (start : Option ℕ) (place : TickPlace) (cycle : ℕ) → HoldsTicks bounds place → 1 ≤ cycle → cycle < 1 + cycles → AllByRecursion (Good bounds) (time_tick cycles start place cycle)
unfolding time_tick
good-time-tick bounds cycles start place cycle holds first last =
    let x = begin_of cycles cycle in
    let right : x ≤ 17800 = begins cycles cycle (omega arith) (omega arith) in
    let small : AreSmall bounds = record { right = holds.wide; bottom = holds.tall } in
    let at : (y : ℕ) → IsHeight bounds y → IsPlace bounds x y = λ y h. on-axis bounds place x y holds (omega arith) right h in
    elim (cases_Bool (is_tick cycles start cycle)) [
      | inl met ↦
          subst (AllByRecursion (Good bounds)) (sym (cond-true (is_tick cycles start cycle) (time_tick_at place x (label_of start cycle)) [] met)) (
            good-line bounds x place.top x place.bottom (line_paint grid 15) [] (omega arith) small (at place.top holds.top) (at place.bottom holds.bottom),
            (good-words bounds x place.label place.size anchors.Middle weights.Regular (label_of start cycle) [] holds.size small (at place.label holds.label), tt),
          )
      | inr unmet ↦ subst (AllByRecursion (Good bounds)) (sym (cond-false (is_tick cycles start cycle) (time_tick_at place x (label_of start cycle)) [] unmet)) tt
    ]

-- The ticks of time.
pub good-ticks : (bounds : Bounds) (cycles : ℕ) (start : Option ℕ) (place : TickPlace) → HoldsTicks bounds place → AreTicksWithin bounds cycles start place
good-ticks bounds cycles start place holds = all-range (Good bounds) (time_tick cycles start place) 1 cycles (λ cycle first last. good-time-tick bounds cycles start place cycle holds first last)

-- The tick of a value.
pub good-value-tick : (bounds : Bounds) (y : ℕ) (words : List ℕ) → AreSmall bounds → IsPlace bounds 2000 y → IsPlace bounds 17800 y → IsPlace bounds 1880 (y + 80) → AllByRecursion (Good bounds) (value_tick_at y words)
good-value-tick bounds y words small from to at = (
  good-line bounds 2000 y 17800 y (line_paint grid 15) [] (omega arith) small from to,
  (good-words bounds 1880 (y + 80) 240 anchors.End weights.Regular words [] (omega arith) small at, tt),
)

-- The frame of a panel whose box ends within the bounds.
pub good-frame : (bounds : Bounds) (top height : ℕ) (heading note : List ℕ) → AreSmall bounds → bounds.left ≤ 2000 → 17800 ≤ bounds.right → bounds.top ≤ top → top + 500 + height ≤ bounds.bottom → AllByRecursion (Good bounds) (frame_marks top height heading note)
good-frame bounds top height heading note small left right above below = (
  good-words bounds 2000 (top + 350) 260 anchors.Start weights.Bold heading [] (omega arith) small (at 2000 (top + 350) (omega arith) (omega arith) (omega arith) (omega arith)),
  (
    good-words bounds 17800 (top + 350) 240 anchors.End weights.Regular note [] (omega arith) small (at 17800 (top + 350) (omega arith) (omega arith) (omega arith) (omega arith)),
    (good-box bounds 2000 (top + 500) 15800 height (line_paint ink 15) [] (omega arith) small (at 2000 (top + 500) (omega arith) (omega arith) (omega arith) (omega arith)) (at (2000 + 15800) (top + 500 + height) (omega arith) (omega arith) (omega arith) (omega arith)), tt),
  ),
)
  where
    at : (x y : ℕ) → 2000 ≤ x → x ≤ 17800 → top ≤ y → y ≤ top + 500 + height → IsPlace bounds x y
    at x y low high upper lower = record { left = omega arith; right = omega arith; top = omega arith; bottom = omega arith }

-- A dot that isn't too near to an edge.
pub good-dot : (bounds : Bounds) (x y : ℕ) (color : Color) (title : List ℕ) → AreSmall bounds → bounds.left + 40 ≤ x → x + 40 ≤ bounds.right → bounds.top + 40 ≤ y → y + 40 ≤ bounds.bottom → Good bounds (dot_mark color (point_at x y) title)
good-dot bounds x y color title small left right top bottom = good-circle bounds x y 40 (plain color) title tt small (omega arith) left right top bottom
