-- All marks lie within the page, and their numbers fit.
use Rattle.std.proofs.Common.{◌≡◌, ℕ, zero, suc, ◌+◌, ◌-◌, ◌*◌, ◌^◌, ◌<◌, ◌≤◌, Bool, true, false, List, [], ◌∷◌, ◌++◌, Option, Some, None, codes, eqb, eq-eqb, eqb-true, length, mul-le-mul_left, ne_eqb, sym, ap, subst, arith, inl, inr}
use Rattle.std.proofs.lemmas.Bool.{cases_Bool, cases_eq, cond-false, cond-true, leb-true, ltb-false, ltb-true}
use Rattle.std.specs.Prelude.{◌%◌, ◌/◌, ◌==◌, if◌then◌else◌, ℤ, IfSome, filter, nat_le, nat_lt, slice_get, take}
use Rattle.std.specs.Fmt.{decimal}
use Rattle.std.specs.Option.{option_map_or}
use Rattle.std.specs.List.{AllByRecursion}
use Rattle.acas_base.specs.declared.setting.Profile.{Profile}
use Rattle.acas_base.specs.declared.setting.Profile.TheVariants.{One, Two}
use Rattle.acas_base.specs.Encounter.{IsEncounter, Parts, is_active_kind}
use Rattle.acas_base.specs.declared.craft.CraftSpec.{CraftSpec}
use Rattle.acas_base.specs.declared.entry.Entry.{Entry}
use Rattle.acas_text.specs.Hex.{hex}
use Rattle.advisory_report.specs.Composite.{word_of}
use Rattle.advisory_report.specs.declared.composite.Composite.{Composite}
use Rattle.air_journal.specs.Airs.{address_of, air_of}
use Rattle.air_rules.specs.Air.{Air}
use Rattle.air_rules.specs.Rules.{IsLegal}
use Rattle.deliveries.specs.declared.rows.Row.{Row as MessageRow}
use Rattle.equal_rows.proofs.Rowing.{are-rows}
use Rattle.equal_rows.specs.Rows.{IsLongest}
use Rattle.equal_rows.specs.declared.row.Row.{Row}
use Rattle.labels.specs.Labels.{AreLabels, LabelWords, name_of}
use Rattle.picture.specs.Bars.{advised, bar_area, bar_marks, bar_height, bar_of, bar_title, bars, craft_marks, has_room, lane_head, lane_marks, lanes_marks, marks_of_craft, row_marks, titled_bar, word_marks, word_pair, word_size, word_x, word_y}
use Rattle.picture.specs.Bands.{band, band_depth, band_of_row, bands_marks, bands_of, craft_bands, edge_point, far_edge, has_line, last_area, last_stripe, last_top, last_width, near_edge, reach_end, reach_length, row_band, shifted, sided_band, stripe, stripe_paint}
use Rattle.picture.specs.Onsets.{circle_mark, corners, diamond, downward, is_onset, onset_mark, onset_marks, onset_paint, upward}
use Rattle.picture.specs.Altitude.{altitude_marks, altitude_with, axis_marks, course_line, course_marks, course_paint, course_point, course_points, course_y, courses, height_text, name_x}
use Rattle.picture.specs.Heights.{HoldsPlanned, altitude_y, axis_of, has_modelled, height_in, modelled_in}
use Rattle.picture.specs.Head.{description, head_marks, nearest_marks, sent_in, sent_text, title_marks, title_text}
use Rattle.picture.specs.Layout.{active_among, bounds_of, bounds_to, frame_of, lane_in, lane_of, lane_pitch, lanes_height, page_bounds, page_height, panels_top, plot_bottom, plot_height, tall_in}
use Rattle.page_marks.specs.Places.{area_at, point_at}
use Rattle.picture.specs.Legend.{arrow_words, band_words, height_words, item_marks, legend_marks, modelled_words, sample_marks, sample_shaft}
use Rattle.picture.specs.Marked.{IsMarked, all_marked, mark_text}
use Rattle.picture.specs.MarkedDrawn.{has_letter, letter_of, letter_text, letter_where, letter_x, line_at, line_of, lines_marks, list_height, list_marks, mark_title, marked_before, row_at, row_number, row_of}
use Rattle.picture.specs.Messages.{arrows}
use Rattle.picture.specs.Modelled.{all_modelled_marks, departed, modelled_flights, modelled_line, modelled_marks, modelled_paint, modelled_point, modelled_points, modelled_title}
use Rattle.picture.specs.MessagesDrawn.{arrow_marks, arrow_shaft, arrow_title, arrows_marks, color_of, down_shaft, event_x, head_points, shaft_marks, shaft_of, up_shaft}
use Rattle.picture.specs.Mishaps.{sent_rows}
use Rattle.picture.specs.MishapsDrawn.{count_marks, count_words, count_x, cross_at, cross_marks, drawn_row, hollow_marks, lost_way, lost_y, messages_marks, mishaps_marks, row_shaft, row_title, sign_marks, stroke}
use Rattle.picture.specs.Laws.{IsSound}
use Rattle.page_marks.specs.Paints.{blue, box_marks, dashed_paint, filled, grid, halo, hatched, ink, letters, line_paint, note, plain, purple, vermilion}
use Rattle.picture.specs.Picture.{below_of, lanes_of, legend_top, list_top, plan_top, page, picture_lines, sections}
use Rattle.picture.specs.Shown.{goes_on, is_shown, shown_in, shown_rows}
use Rattle.picture.specs.Time.{axis_name, box_and_name, tick_place, time_marks}
use Rattle.page_marks.proofs.Bounded.{AreSmall, IsPlace, wider, all-append, all-left, all-over, all-points, all-range, all-right, at-point, is-point, good-box as box-in, good-boxes as boxes-in, good-circle as circle-in, good-halo as halo-in, good-line as line-in, good-words as words-in}
use Rattle.page_marks.proofs.Ticking.{begins as begins-within, good-dot, good-ticks}
use Rattle.page_marks.specs.Frame.{dot_mark}
use Rattle.page_marks.specs.Ticks.{HoldsTicks, time_ticks}
use Rattle.page_marks.specs.Within.{AreInside, Bounds, IsMarkWithin, IsWithin}
use Rattle.pair_panels.proofs.Best.{is-pair, nearest-is}
use Rattle.pair_panels.proofs.Placing.{are-within}
use Rattle.pair_panels.specs.Headline.{apart_words, headline_marks, pair_words}
use Rattle.pair_panels.specs.Laws.{bounds_from}
use Rattle.pair_panels.specs.Nearest.{IsNearest, IsPair, nearest_pair}
use Rattle.pair_panels.specs.Panel.{distance_marks}
use Rattle.pair_panels.specs.declared.distance.Distance.{Distance}
use Rattle.pair_panels.specs.declared.distance.Distance.TheVariants.{Slant, Vertical}
use Rattle.pair_panels.specs.declared.nearest.NearPair.{NearPair}
use Rattle.picture.proofs.Hearing.{are-in-list}
use Rattle.picture.specs.Heard.{heard_marks}
use Rattle.picture.specs.HeardLaws.{list_from}
use Rattle.picture.specs.Panels.{approach_of, both_marks, panel_marks, panels_height, tested_marks, tests_height, told_pair}
use Rattle.plan_panel.proofs.Placing.{are-within as plan-within}
use Rattle.plan_panel.specs.Laws.{part_from}
use Rattle.plan_panel.specs.Marks.{IsApproach, plan_marks}
use Rattle.seconds_panel.proofs.Placing.{are-within as seconds-within}
use Rattle.seconds_panel.specs.Laws.{bounds_from as seconds_part}
use Rattle.seconds_panel.specs.Own.{own_of}
use Rattle.seconds_panel.specs.Panel.{seconds_marks}
use Rattle.seconds_panel.specs.declared.own.TestedPair.{TestedPair}
use Rattle.picture.specs.declared.bar.Bar.{Bar}
use Rattle.picture.specs.declared.marked.Marked.{Marked}
use Rattle.picture.specs.declared.layout.Lane.{Lane}
use Rattle.picture.specs.declared.messages_drawn.Shaft.{Shaft}
use Rattle.picture.specs.declared.messages_read.Arrow.{Arrow}
use Rattle.picture.specs.declared.mishaps.SentRow.{SentRow}
use Rattle.picture.specs.declared.mishaps.Sign.{Sign}
use Rattle.picture.specs.declared.mishaps.Sign.TheVariants.{Cross, HollowHead}
use Rattle.picture.specs.declared.span.Span.{Span}
use Rattle.picture.specs.declared.side.Side.{Side}
use Rattle.picture.specs.declared.side.Side.TheVariants.{Above, Below}
use Rattle.page_marks.specs.declared.paints.Advised.{Advised}
use Rattle.page_marks.specs.declared.paints.Advised.TheVariants.{Traffic, Up, Down, Both}
use Rattle.picture.proofs.Axis.{high-enough, holds-planned}
use Rattle.picture.proofs.Barring.{is-run}
use Rattle.picture.proofs.Befallen.{IsInRun, rows-in-run}
use Rattle.picture.proofs.Marking.{count-below, count-most, each-marked, is-counted}
use Rattle.picture.proofs.Messaging.{IsTimely, arrows-timely}
use Rattle.plot_axes.proofs.Shares.{kept}
use Rattle.plot_axes.specs.Time.{axis_begin, begin_of, label_of, middle_of}
use Rattle.svg_text.proofs.WellFormed.{form}
use Rattle.svg_text.specs.Documents.{Section}
use Rattle.svg_text.specs.Fitting.{FitsFrame, FitsMark, FitsPaint, IsPoint}
use Rattle.svg_text.specs.Marks.{Mark, figure, traced, worded}
use Rattle.svg_text.specs.declared.shapes.Anchor.{Anchor}
use Rattle.svg_text.specs.declared.shapes.Anchor.TheVariants as anchors
use Rattle.svg_text.specs.declared.shapes.Outline.{Outline}
use Rattle.svg_text.specs.declared.shapes.Outline.TheVariants as outlines
use Rattle.svg_text.specs.declared.shapes.Color.{Color}
use Rattle.svg_text.specs.declared.shapes.Dash.TheVariants as dashes
use Rattle.svg_text.specs.declared.shapes.Paint.{Paint}
use Rattle.svg_text.specs.declared.shapes.Point.{Point}
use Rattle.svg_text.specs.declared.shapes.Shape.TheVariants as shapes
use Rattle.svg_text.specs.declared.shapes.Weight.{Weight}
use Rattle.svg_text.specs.declared.shapes.Weight.TheVariants as weights

-- ---- single marks

-- A mark lies within the page down to a height, and its numbers fit.
abbrev GoodTo : ℕ → Mark → Type 0
GoodTo height mark = IsMarkWithin (bounds_to height) mark × FitsMark mark

small : (height : ℕ) → height ≤ 60000 → AreSmall (bounds_to height)
small height few = record { right = omega arith; bottom = omega arith }

place : (height x y : ℕ) → x ≤ 20000 → y ≤ height → IsPlace (bounds_to height) x y
place height x y wide tall = record { left = omega arith; right = omega arith; top = omega arith; bottom = omega arith }

line-to : (height x y p q : ℕ) (paint : Paint) (title : List ℕ) → FitsPaint paint → height ≤ 60000 → x ≤ 20000 → y ≤ height → p ≤ 20000 → q ≤ height → GoodTo height (figure (shapes.Segment (point_at x y) (point_at p q)) paint title)
line-to height x y p q paint title fits few a b c d = line-in (bounds_to height) x y p q paint title fits (small height few) (place height x y a b) (place height p q c d)

box-to : (height x y width tall : ℕ) (paint : Paint) (title : List ℕ) → FitsPaint paint → height ≤ 60000 → x + width ≤ 20000 → y + tall ≤ height → GoodTo height (figure (shapes.Rect (area_at x y width tall)) paint title)
box-to height x y width tall paint title fits few right bottom =
    box-in (bounds_to height) x y width tall paint title fits (small height few) (place height x y (omega arith) (omega arith)) (place height (x + width) (y + tall) right bottom)

words-to : (height x y size : ℕ) (anchor : Anchor) (weight : Weight) (words title : List ℕ) → size < 2 ^ 16 → height ≤ 60000 → x ≤ 20000 → y ≤ height → GoodTo height (worded (letters (point_at x y) size anchor weight) words title)
words-to height x y size anchor weight words title short few a b = words-in (bounds_to height) x y size anchor weight words title short (small height few) (place height x y a b)

halo-to : (height x y size : ℕ) (anchor : Anchor) (weight : Weight) (words title : List ℕ) → size < 2 ^ 16 → height ≤ 60000 → x ≤ 20000 → y ≤ height → GoodTo height (worded (halo (point_at x y) size anchor weight) words title)
halo-to height x y size anchor weight words title short few a b = halo-in (bounds_to height) x y size anchor weight words title short (small height few) (place height x y a b)

boxes-to : (height x y width tall : ℕ) (kind : Advised) (title : List ℕ) → height ≤ 60000 → x + width ≤ 20000 → y + tall ≤ height → AllByRecursion (GoodTo height) (box_marks kind (area_at x y width tall) title)
boxes-to height x y width tall kind title few right bottom =
    boxes-in (bounds_to height) x y width tall kind title (small height few) (place height x y (omega arith) (omega arith)) (place height (x + width) (y + tall) right bottom)

abbrev GoodPointTo : ℕ → Point → Type 0
GoodPointTo height point = IsWithin (bounds_to height) 0 point × IsPoint point

point-to : (height x y : ℕ) → height ≤ 60000 → x ≤ 20000 → y ≤ height → GoodPointTo height (point_at x y)
point-to height x y few wide tall =
    let p = place height x y wide tall in
    (at-point (bounds_to height) x y p, is-point (bounds_to height) x y (small height few) p)

traced-to : (height : ℕ) (outline : Outline) (points : List Point) (paint : Paint) (title : List ℕ) → FitsPaint paint → AllByRecursion (GoodPointTo height) points → GoodTo height (traced outline points paint title)
traced-to height outline points paint title fits all = (all-left (IsWithin (bounds_to height) 0) IsPoint points all, (all-right (IsWithin (bounds_to height) 0) IsPoint points all, fits))

-- ---- so many lanes

-- What holds of both ways of a test holds of what it gives.
both-ways : (P : ℕ → Type 0) (test : Bool) (x y : ℕ) → (test ≡ true → P x) → (test ≡ false → P y) → P (if test then x else y)
both-ways P test x y one other = elim (cases_Bool test) [
  | inl met ↦ subst P (sym (cond-true test x y met)) (one met)
  | inr unmet ↦ subst P (sym (cond-false test x y unmet)) (other unmet)
]

-- So many lanes fit with a pitch.
record IsPitch (lanes pitch : ℕ) : Type 0 where
  least : 560 ≤ pitch
  most : pitch ≤ 1200
  all : pitch * lanes ≤ 8960

pitch-of : (lanes : ℕ) → lanes ≤ 16 → IsPitch lanes (lane_pitch lanes)
unfolding lane_pitch
pitch-of lanes few =
    both-ways (IsPitch lanes) (nat_le lanes 2) 1200 (if nat_le lanes 4 then 960 else (if nat_le lanes 8 then 740 else 560))
    (λ met. let two = leb-true lanes 2 met in record { least = omega arith; most = omega arith; all = omega arith })
    (λ over. both-ways (IsPitch lanes) (nat_le lanes 4) 960 (if nat_le lanes 8 then 740 else 560)
    (λ met. let four = leb-true lanes 4 met in record { least = omega arith; most = omega arith; all = omega arith })
    (λ more. both-ways (IsPitch lanes) (nat_le lanes 8) 740 560
    (λ met. let eight = leb-true lanes 8 met in record { least = omega arith; most = omega arith; all = omega arith })
    (λ rest. record { least = omega arith; most = omega arith; all = omega arith })))

lanes-most : (lanes : ℕ) → lanes ≤ 16 → lanes_height lanes ≤ 8960
unfolding lanes_height
lanes-most lanes few = (pitch-of lanes few).all

-- The same above the panels of a page of so many lanes.
abbrev Good : ℕ → Mark → Type 0
Good lanes mark = GoodTo (page_height lanes) mark

low-page : (lanes : ℕ) → lanes ≤ 16 → page_height lanes ≤ 60000
low-page lanes few = let most = lanes-most lanes few in omega arith

good-line : (lanes x y p q : ℕ) (paint : Paint) (title : List ℕ) → FitsPaint paint → lanes ≤ 16 → x ≤ 20000 → y ≤ page_height lanes → p ≤ 20000 → q ≤ page_height lanes →
    Good lanes (figure (shapes.Segment (point_at x y) (point_at p q)) paint title)
good-line lanes x y p q paint title fits few a b c d = line-to (page_height lanes) x y p q paint title fits (low-page lanes few) a b c d

good-box : (lanes x y width height : ℕ) (paint : Paint) (title : List ℕ) → FitsPaint paint → lanes ≤ 16 → x + width ≤ 20000 → y + height ≤ page_height lanes →
    Good lanes (figure (shapes.Rect (area_at x y width height)) paint title)
good-box lanes x y width height paint title fits few right bottom = box-to (page_height lanes) x y width height paint title fits (low-page lanes few) right bottom

good-words : (lanes x y size : ℕ) (anchor : Anchor) (weight : Weight) (words title : List ℕ) → size < 2 ^ 16 → lanes ≤ 16 → x ≤ 20000 → y ≤ page_height lanes →
    Good lanes (worded (letters (point_at x y) size anchor weight) words title)
good-words lanes x y size anchor weight words title short few a b = words-to (page_height lanes) x y size anchor weight words title short (low-page lanes few) a b

good-halo : (lanes x y size : ℕ) (anchor : Anchor) (weight : Weight) (words title : List ℕ) → size < 2 ^ 16 → lanes ≤ 16 → x ≤ 20000 → y ≤ page_height lanes →
    Good lanes (worded (halo (point_at x y) size anchor weight) words title)
good-halo lanes x y size anchor weight words title short few a b = halo-to (page_height lanes) x y size anchor weight words title short (low-page lanes few) a b

good-boxes : (lanes x y width height : ℕ) (kind : Advised) (title : List ℕ) → lanes ≤ 16 → x + width ≤ 20000 → y + height ≤ page_height lanes → AllByRecursion (Good lanes) (box_marks kind (area_at x y width height) title)
good-boxes lanes x y width height kind title few right bottom = boxes-to (page_height lanes) x y width height kind title (low-page lanes few) right bottom

-- ---- the head and the axis of time

good-title : (e : Parts) (J : List Entry) (lanes : ℕ) → lanes ≤ 16 → AllByRecursion (Good lanes) (title_marks e J)
good-title e J lanes few = (
  good-words lanes 400 700 440 anchors.Start weights.Bold (title_text e) [] (omega arith) few (omega arith) (omega arith),
  (good-words lanes 400 1150 280 anchors.Start weights.Regular (sent_text (sent_in J)) [] (omega arith) few (omega arith) (omega arith), tt),
)

good-nearest : (it : LabelWords) (e : Parts) (pair : Option NearPair) (lanes : ℕ) → lanes ≤ 16 → AllByRecursion (Good lanes) (nearest_marks it e pair)
unfolding headline_marks
good-nearest it e None lanes few = tt
good-nearest it e (Some pair) lanes few = (
  good-words lanes 4000 1150 240 anchors.Start weights.Regular (pair_words e it pair) [] (omega arith) few (omega arith) (omega arith),
  (good-words lanes 19600 1150 240 anchors.End weights.Regular (apart_words e pair) [] (omega arith) few (omega arith) (omega arith), tt),
)

good-head : (it : LabelWords) (e : Parts) (J : List Entry) (pair : Option NearPair) (lanes : ℕ) → lanes ≤ 16 → AllByRecursion (Good lanes) (head_marks it e J pair)
good-head it e J pair lanes few = all-append (Good lanes) (title_marks e J) (nearest_marks it e pair) (good-title e J lanes few) (good-nearest it e pair lanes few)

good-time : (lanes cycles : ℕ) (start : Option ℕ) → lanes ≤ 16 → AllByRecursion (Good lanes) (time_marks cycles start lanes)
good-time lanes cycles start few =
    let most = lanes-most lanes few in
    let holds : HoldsTicks (bounds_of lanes) (tick_place lanes) = record {
      left = omega arith;
      right = omega arith;
      top = record { above = omega arith; below = omega arith };
      bottom = record { above = omega arith; below = omega arith };
      label = record { above = omega arith; below = omega arith };
      size = omega arith;
      wide = omega arith;
      tall = omega arith;
    } in
    all-append (Good lanes) (time_ticks cycles start (tick_place lanes)) (box_and_name lanes (axis_name start)) (good-ticks (bounds_of lanes) cycles start (tick_place lanes) holds) (
      good-box lanes 2000 5100 15800 (plot_height lanes) (line_paint ink 15) [] (omega arith) few (omega arith) (omega arith),
      (good-words lanes 9900 (plot_bottom lanes + 780) 260 anchors.Middle weights.Regular (axis_name start) [] (omega arith) few (omega arith) (omega arith), tt),
    )

-- ---- altitudes

low-enough : (axis : Span) (height : ℤ) → altitude_y axis height ≤ 4700
unfolding altitude_y
low-enough axis height = omega arith

y-most : (axis : Span) (e : Parts) (own cycle : ℕ) → course_y axis e own cycle ≤ 4700
unfolding course_y
y-most axis e own cycle = low-enough axis (height_in e own cycle)

good-point : (axis : Span) (e : Parts) (lanes own cycle : ℕ) → lanes ≤ 16 → 1 ≤ cycle → cycle < 1 + e.cycles → GoodPointTo (page_height lanes) (course_point axis e own cycle)
unfolding course_point
good-point axis e lanes own cycle few first last =
    let x = begins-within e.cycles cycle (omega arith) (omega arith) in
    let y = y-most axis e own cycle in
    point-to (page_height lanes) (begin_of e.cycles cycle) (course_y axis e own cycle) (low-page lanes few) (omega (arith, x)) (omega (arith, y))

x-most : (own : ℕ) → name_x own ≤ 18950
unfolding name_x
x-most own = elim (cases_Bool (own % 2 == 0)) [
  | inl met ↦ subst (λ (n : ℕ). n ≤ 18950) (sym (cond-true (own % 2 == 0) 17900 18950 met)) (omega arith)
  | inr unmet ↦ subst (λ (n : ℕ). n ≤ 18950) (sym (cond-false (own % 2 == 0) 17900 18950 unmet)) (omega arith)
]

y-least : (axis : Span) (e : Parts) → HoldsPlanned axis e → (own cycle : ℕ) → own < length e.crafts → 1 ≤ cycle → cycle ≤ e.cycles → 1500 ≤ course_y axis e own cycle
unfolding course_y
y-least axis e holds own cycle within first last = high-enough axis (height_in e own cycle) (holds own cycle within first last)

good-course-line : (axis : Span) (e : Parts) → HoldsPlanned axis e → (lanes own : ℕ) (title : List ℕ) → lanes ≤ 16 → own < length e.crafts → AllByRecursion (Good lanes) (course_line axis e own title)
unfolding course_line course_point
good-course-line axis e holds lanes own title few within =
    let dot = dot_mark ink (course_point axis e own 1) title in
    let line = traced outlines.Open (course_points axis e own) (course_paint own) title in
    elim (cases_Bool (e.cycles == 1)) [
      | inl met ↦
          (let one = eqb-true e.cycles 1 met in
          let x = begins-within e.cycles 1 (omega arith) (omega arith) in
          let high = y-least axis e holds own 1 within (omega arith) (omega arith) in
          let low = y-most axis e own 1 in
          subst (AllByRecursion (Good lanes)) (sym (cond-true (e.cycles == 1) (dot ∷ []) (line ∷ []) met))
          (good-dot (bounds_of lanes) (begin_of e.cycles 1) (course_y axis e own 1) ink title (small (page_height lanes) (low-page lanes few)) (omega arith) (omega (arith, x)) (omega (arith, high)) (omega (arith, low)), tt))
      | inr unmet ↦
          subst (AllByRecursion (Good lanes)) (sym (cond-false (e.cycles == 1) (dot ∷ []) (line ∷ []) unmet))
          (traced-to (page_height lanes) outlines.Open (course_points axis e own) (course_paint own) title (omega arith) (all-points (GoodPointTo (page_height lanes)) (course_point axis e own) 1 e.cycles (λ k first last. good-point axis e lanes own k few first last)), tt)
    ]

good-course : (it : LabelWords) (axis : Span) (e : Parts) → HoldsPlanned axis e → (lanes own : ℕ) → lanes ≤ 16 → own < length e.crafts → AllByRecursion (Good lanes) (course_marks axis it e own)
unfolding course_marks
good-course it axis e holds lanes own few within =
    let x = x-most own in
    let y = y-most axis e own e.cycles in
    let name = name_of it (address_of e own) in
    all-append (Good lanes) (course_line axis e own (hex 6 (address_of e own))) (worded (letters (point_at (name_x own) (course_y axis e own e.cycles + 80)) 240 anchors.Start weights.Regular) name [] ∷ [])
    (good-course-line axis e holds lanes own (hex 6 (address_of e own)) few within)
    (good-words lanes (name_x own) (course_y axis e own e.cycles + 80) 240 anchors.Start weights.Regular name [] (omega arith) few (omega (arith, x)) (omega (arith, y)), tt)

good-axis : (lanes : ℕ) (axis : Span) → lanes ≤ 16 → AllByRecursion (Good lanes) (axis_marks axis)
unfolding axis_marks
good-axis lanes axis few =
    let box = good-box lanes 2000 1500 15800 3200 (line_paint ink 15) [] (omega arith) few (omega arith) (omega arith) in
    let high = good-words lanes 1880 1720 260 anchors.End weights.Regular (height_text axis.high) [] (omega arith) few (omega arith) (omega arith) in
    let low = good-words lanes 1880 4700 260 anchors.End weights.Regular (height_text axis.low) [] (omega arith) few (omega arith) (omega arith) in
    (box, (high, (low, tt)))

-- A modelled flight.
modelled-place : (axis : Span) (e : Parts) (J : List Entry) (lanes own cycle : ℕ) → lanes ≤ 16 → 1 ≤ cycle → cycle ≤ e.cycles → GoodPointTo (page_height lanes) (modelled_point axis e J own cycle)
unfolding modelled_point
modelled-place axis e J lanes own cycle few first last =
    let x = begins-within e.cycles cycle (omega arith) (omega arith) in
    let y = low-enough axis (modelled_in e J own cycle) in
    point-to (page_height lanes) (begin_of e.cycles cycle) (altitude_y axis (modelled_in e J own cycle)) (low-page lanes few) (omega (arith, x)) (omega (arith, y))

good-modelled-line : (axis : Span) (e : Parts) (J : List Entry) (lanes own : ℕ) (title : List ℕ) (first : Option ℕ) → lanes ≤ 16 → AllByRecursion (Good lanes) (modelled_line axis e J own title first)
unfolding modelled_points
good-modelled-line axis e J lanes own title None few = tt
good-modelled-line axis e J lanes own title (Some first) few =
    let passed = first - 2 in
    let points = all-points (GoodPointTo (page_height lanes)) (modelled_point axis e J own) (passed + 1) (e.cycles - passed) (λ k from to. modelled-place axis e J lanes own k few (omega arith) (omega arith)) in
    (traced-to (page_height lanes) outlines.Open (modelled_points axis e J own passed) modelled_paint title (omega arith) points, tt)

good-modelled : (axis : Span) (e : Parts) (J : List Entry) (lanes own : ℕ) → lanes ≤ 16 → AllByRecursion (Good lanes) (modelled_marks axis e J own)
unfolding modelled_marks
good-modelled axis e J lanes own few = good-modelled-line axis e J lanes own (modelled_title (address_of e own)) (departed e J own e.cycles) few

good-all-modelled : (axis : Span) (e : Parts) (J : List Entry) (lanes : ℕ) → lanes ≤ 16 → AllByRecursion (Good lanes) (all_modelled_marks axis e J)
unfolding all_modelled_marks
good-all-modelled axis e J lanes few =
    let P = AllByRecursion (Good lanes) in
    let marks = modelled_flights axis e J in
    elim (cases_Bool (has_modelled e)) [
      | inl met ↦ subst P (sym (cond-true (has_modelled e) marks [] met)) (all-range (Good lanes) (modelled_marks axis e J) 0 (length e.crafts) (λ own first last. good-modelled axis e J lanes own few))
      | inr unmet ↦ subst P (sym (cond-false (has_modelled e) marks [] unmet)) tt
    ]

good-altitude-with : (it : LabelWords) (axis : Span) (e : Parts) → HoldsPlanned axis e → (J : List Entry) (lanes : ℕ) → lanes ≤ 16 → AllByRecursion (Good lanes) (altitude_with axis it e J)
good-altitude-with it axis e holds J lanes few =
    all-append (Good lanes) (axis_marks axis) _ (good-axis lanes axis few)
    (all-append (Good lanes) (all_modelled_marks axis e J) (courses axis it e) (good-all-modelled axis e J lanes few)
    (all-range (Good lanes) (course_marks axis it e) 0 (length e.crafts) (λ own first last. good-course it axis e holds lanes own few (omega arith))))

good-altitude : (it : LabelWords) (e : Parts) (J : List Entry) (lanes : ℕ) → lanes ≤ 16 → AllByRecursion (Good lanes) (altitude_marks it e J)
good-altitude it e J lanes few = good-altitude-with it (axis_of e J) e (holds-planned e J) J lanes few

-- ---- bands

abbrev GoodPoint : ℕ → Point → Type 0
GoodPoint lanes point = GoodPointTo (page_height lanes) point

a-point : (lanes x y : ℕ) → lanes ≤ 16 → x ≤ 20000 → y ≤ page_height lanes → GoodPoint lanes (point_at x y)
a-point lanes x y few wide tall = point-to (page_height lanes) x y (low-page lanes few) wide tall

shifted-most : (side : Side) (depth y : ℕ) → depth ≤ 150 → y ≤ 4700 → shifted side depth y ≤ 4850
shifted-most Above depth y deep low = omega arith
shifted-most Below depth y deep low = omega arith

good-edge : (axis : Span) (e : Parts) (lanes own : ℕ) (side : Side) (depth cycle : ℕ) → lanes ≤ 16 → depth ≤ 150 → 1 ≤ e.cycles → cycle ≤ e.cycles → GoodPoint lanes (edge_point axis e own side depth cycle)
unfolding edge_point
good-edge axis e lanes own side depth cycle few deep some last =
    let x = begins-within e.cycles cycle some (omega arith) in
    let y = shifted-most side depth (course_y axis e own cycle) deep (y-most axis e own cycle) in
    a-point lanes (begin_of e.cycles cycle) (shifted side depth (course_y axis e own cycle)) few (omega (arith, x)) (omega (arith, y))

-- A row lies in a run of cycles.
pub record IsIn (cycles : ℕ) (row : Row) : Type 0 where
  pub begun : 1 ≤ row.first
  pub in_order : row.first ≤ row.last
  pub in_run : row.last ≤ cycles

reach-most : (cycles : ℕ) (row : Row) → reach_end cycles row ≤ cycles
reach-most cycles row = elim (cases_Bool (nat_lt row.last cycles)) [
  | inl met ↦
      (let within = ltb-true row.last cycles met in
      subst (λ (n : ℕ). n ≤ cycles) (sym (cond-true (nat_lt row.last cycles) (row.last + 1) cycles met)) (omega (arith, within)))
  | inr unmet ↦ subst (λ (n : ℕ). n ≤ cycles) (sym (cond-false (nat_lt row.last cycles) (row.last + 1) cycles unmet)) (omega arith)
]

good-near : (axis : Span) (e : Parts) (lanes own : ℕ) (row : Row) → lanes ≤ 16 → IsIn e.cycles row → AllByRecursion (GoodPoint lanes) (near_edge axis e own row)
unfolding near_edge
good-near axis e lanes own row few it =
    let begun = it.begun in
    let end = reach-most e.cycles row in
    all-points (GoodPoint lanes) (course_point axis e own) row.first (reach_length e.cycles row) (λ k first last. good-point axis e lanes own k few (omega arith) (omega arith))

good-far : (axis : Span) (e : Parts) (lanes own : ℕ) (side : Side) (depth : ℕ) (row : Row) → lanes ≤ 16 → depth ≤ 150 → IsIn e.cycles row → AllByRecursion (GoodPoint lanes) (far_edge axis e own side depth row)
unfolding far_edge
good-far axis e lanes own side depth row few deep it =
    let begun = it.begun in
    let order = it.in_order in
    let run = it.in_run in
    let end = reach-most e.cycles row in
    all-points (GoodPoint lanes) (λ (k : ℕ). edge_point axis e own side depth (reach_end e.cycles row - k)) 0 (reach_length e.cycles row)
    (λ k first last. good-edge axis e lanes own side depth (reach_end e.cycles row - k) few deep (omega arith) (omega arith))

good-traced : (lanes : ℕ) (outline : Outline) (points : List Point) (paint : Paint) (title : List ℕ) → FitsPaint paint → AllByRecursion (GoodPoint lanes) points → Good lanes (traced outline points paint title)
good-traced lanes outline points paint title fits all = traced-to (page_height lanes) outline points paint title fits all

middles-within : (cycles : ℕ) → 1 ≤ cycles → middle_of cycles cycles ≤ 17800
middles-within cycles some =
    let one = begins-within cycles cycles some (omega arith) in
    let other = begins-within cycles (cycles + 1) some (omega arith) in
    omega (arith, one, other)

top-most : (side : Side) (depth y : ℕ) → y ≤ 4700 → last_top side depth y ≤ 4700
top-most Above depth y low = omega arith
top-most Below depth y low = omega arith

good-last : (axis : Span) (e : Parts) (lanes own : ℕ) (side : Side) (depth : ℕ) (paint : Paint) (title : List ℕ) → FitsPaint paint → lanes ≤ 16 → depth ≤ 150 → 1 ≤ e.cycles →
    Good lanes (figure (shapes.Rect (last_area axis e own side depth)) paint title)
unfolding last_area
good-last axis e lanes own side depth paint title fits few deep some =
    let x = begins-within e.cycles e.cycles some (omega arith) in
    let middle = middles-within e.cycles some in
    let y = top-most side depth (course_y axis e own e.cycles) (y-most axis e own e.cycles) in
    good-box lanes (begin_of e.cycles e.cycles) (last_top side depth (course_y axis e own e.cycles)) (last_width e.cycles) depth paint title fits few (omega (arith, x, middle)) (omega (arith, y))

good-last-stripe : (axis : Span) (e : Parts) (lanes own : ℕ) (title : List ℕ) → lanes ≤ 16 → 1 ≤ e.cycles → Good lanes (figure (last_stripe axis e own) stripe_paint title)
unfolding last_stripe course_point
good-last-stripe axis e lanes own title few some =
    let x = begins-within e.cycles e.cycles some (omega arith) in
    let middle = middles-within e.cycles some in
    let y = y-most axis e own e.cycles in
    good-line lanes (begin_of e.cycles e.cycles) (course_y axis e own e.cycles) (middle_of e.cycles e.cycles) (course_y axis e own e.cycles) stripe_paint title (omega arith) few (omega (arith, x)) (omega (arith, y)) (omega (arith, middle)) (omega (arith, y))

in-run : (cycles : ℕ) (row : Row) → IsIn cycles row → 1 ≤ cycles
in-run cycles row it = (let begun = it.begun in let order = it.in_order in let run = it.in_run in omega arith)

good-band : (axis : Span) (e : Parts) (lanes own : ℕ) (row : Row) (title : List ℕ) (side : Side) (depth : ℕ) (paint : Paint) → FitsPaint paint → lanes ≤ 16 → depth ≤ 150 → IsIn e.cycles row →
    AllByRecursion (Good lanes) (band axis e own row title side depth paint)
unfolding band
good-band axis e lanes own row title side depth paint fits few deep it =
    let points = near_edge axis e own row ++ far_edge axis e own side depth row in
    let one = traced outlines.Closed points paint title in
    let other = figure (shapes.Rect (last_area axis e own side depth)) paint title in
    elim (cases_Bool (has_line e.cycles row)) [
      | inl met ↦
          subst (AllByRecursion (Good lanes)) (sym (cond-true (has_line e.cycles row) (one ∷ []) (other ∷ []) met)) (
            good-traced lanes outlines.Closed points paint title fits
                (all-append (GoodPoint lanes) (near_edge axis e own row) (far_edge axis e own side depth row) (good-near axis e lanes own row few it) (good-far axis e lanes own side depth row few deep it)),
            tt,
          )
      | inr unmet ↦
          subst (AllByRecursion (Good lanes)) (sym (cond-false (has_line e.cycles row) (one ∷ []) (other ∷ []) unmet))
          (good-last axis e lanes own side depth paint title fits few deep (in-run e.cycles row it), tt)
    ]

good-stripe : (axis : Span) (e : Parts) (lanes own : ℕ) (row : Row) (title : List ℕ) → lanes ≤ 16 → IsIn e.cycles row → AllByRecursion (Good lanes) (stripe axis e own row title)
unfolding stripe
good-stripe axis e lanes own row title few it =
    let one = traced outlines.Open (near_edge axis e own row) stripe_paint title in
    let other = figure (last_stripe axis e own) stripe_paint title in
    elim (cases_Bool (has_line e.cycles row)) [
      | inl met ↦
          subst (AllByRecursion (Good lanes)) (sym (cond-true (has_line e.cycles row) (one ∷ []) (other ∷ []) met))
          (good-traced lanes outlines.Open (near_edge axis e own row) stripe_paint title (omega arith) (good-near axis e lanes own row few it), tt)
      | inr unmet ↦
          subst (AllByRecursion (Good lanes)) (sym (cond-false (has_line e.cycles row) (one ∷ []) (other ∷ []) unmet))
          (good-last-stripe axis e lanes own title few (in-run e.cycles row it), tt)
    ]

good-sided : (axis : Span) (e : Parts) (lanes own : ℕ) (row : Row) (title : List ℕ) (kind : Advised) (depth : ℕ) → lanes ≤ 16 → depth ≤ 150 → IsIn e.cycles row →
    AllByRecursion (Good lanes) (sided_band axis e own row title kind depth)
good-sided axis e lanes own row title Traffic depth few deep it = good-stripe axis e lanes own row title few it
good-sided axis e lanes own row title Up depth few deep it = good-band axis e lanes own row title Above depth (plain blue) tt few deep it
good-sided axis e lanes own row title Down depth few deep it =
    all-append (Good lanes) (band axis e own row title Below depth (plain vermilion)) (band axis e own row title Below depth hatched)
    (good-band axis e lanes own row title Below depth (plain vermilion) tt few deep it) (good-band axis e lanes own row title Below depth hatched tt few deep it)
good-sided axis e lanes own row title Both depth few deep it =
    all-append (Good lanes) (band axis e own row title Above depth (plain purple)) (band axis e own row title Below depth (plain purple))
    (good-band axis e lanes own row title Above depth (plain purple) tt few deep it) (good-band axis e lanes own row title Below depth (plain purple) tt few deep it)

good-corners : (lanes x y : ℕ) (kind : Advised) → lanes ≤ 16 → x ≤ 17800 → y ≤ 4700 → AllByRecursion (GoodPoint lanes) (corners kind x y)
unfolding upward downward diamond
good-corners lanes x y Traffic few right low = tt
good-corners lanes x y Up few right low =
    (a-point lanes (x - 110) (y - 20) few (omega arith) (omega arith), (a-point lanes (x + 110) (y - 20) few (omega arith) (omega arith), (a-point lanes x (y - 260) few (omega arith) (omega arith), tt)))
good-corners lanes x y Down few right low =
    (a-point lanes (x - 110) (y + 20) few (omega arith) (omega arith), (a-point lanes (x + 110) (y + 20) few (omega arith) (omega arith), (a-point lanes x (y + 260) few (omega arith) (omega arith), tt)))
good-corners lanes x y Both few right low = (
  a-point lanes (x - 110) y few (omega arith) (omega arith),
  (a-point lanes x (y - 150) few (omega arith) (omega arith), (a-point lanes (x + 110) y few (omega arith) (omega arith), (a-point lanes x (y + 150) few (omega arith) (omega arith), tt))),
)

good-circle : (lanes x y : ℕ) (title : List ℕ) → lanes ≤ 16 → 2000 ≤ x → x ≤ 17800 → 1500 ≤ y → y ≤ 4700 → AllByRecursion (Good lanes) (circle_mark x y title)
good-circle lanes x y title few left right high low =
    (circle-in (bounds_of lanes) x y 90 (onset_paint Traffic) title (omega arith) (small (page_height lanes) (low-page lanes few)) (omega arith) (omega arith) (omega arith) (omega arith) (omega arith), tt)

good-onset : (lanes x y : ℕ) (title : List ℕ) (kind : Advised) → lanes ≤ 16 → 2000 ≤ x → x ≤ 17800 → 1500 ≤ y → y ≤ 4700 → AllByRecursion (Good lanes) (onset_mark x y title kind)
good-onset lanes x y title Traffic few left right high low = good-circle lanes x y title few left right high low
good-onset lanes x y title Up few left right high low = (good-traced lanes outlines.Closed (corners Up x y) (onset_paint Up) title (omega arith) (good-corners lanes x y Up few right low), tt)
good-onset lanes x y title Down few left right high low = (good-traced lanes outlines.Closed (corners Down x y) (onset_paint Down) title (omega arith) (good-corners lanes x y Down few right low), tt)
good-onset lanes x y title Both few left right high low = (good-traced lanes outlines.Closed (corners Both x y) (onset_paint Both) title (omega arith) (good-corners lanes x y Both few right low), tt)

good-onsets : (lanes x y : ℕ) (title : List ℕ) (before now : Composite) → lanes ≤ 16 → 2000 ≤ x → x ≤ 17800 → 1500 ≤ y → y ≤ 4700 → AllByRecursion (Good lanes) (onset_marks x y title before now)
unfolding onset_marks
good-onsets lanes x y title before now few left right high low = elim (cases_Bool (is_onset before now)) [
  | inl met ↦ subst (AllByRecursion (Good lanes)) (sym (cond-true (is_onset before now) (onset_mark x y title (advised now)) [] met)) (good-onset lanes x y title (advised now) few left right high low)
  | inr unmet ↦ subst (AllByRecursion (Good lanes)) (sym (cond-false (is_onset before now) (onset_mark x y title (advised now)) [] unmet)) tt
]

depth-most : (composite : Composite) → band_depth composite ≤ 150
depth-most composite = elim (cases_Bool composite.corrective) [
  | inl met ↦ subst (λ (n : ℕ). n ≤ 150) (sym (cond-true composite.corrective 150 75 met)) (omega arith)
  | inr unmet ↦ subst (λ (n : ℕ). n ≤ 150) (sym (cond-false composite.corrective 150 75 unmet)) (omega arith)
]

good-row-band : (axis : Span) (e : Parts) → HoldsPlanned axis e → (lanes own : ℕ) (row : Row) (title : List ℕ) (before now : Composite) → lanes ≤ 16 → own < length e.crafts → IsIn e.cycles row →
    AllByRecursion (Good lanes) (row_band axis e own row title before now)
unfolding row_band
good-row-band axis e holds lanes own row title before now few within it =
    let begun = it.begun in
    let order = it.in_order in
    let run = it.in_run in
    let last : row.first ≤ e.cycles = omega arith in
    let x = begins-within e.cycles row.first (in-run e.cycles row it) (omega arith) in
    all-append (Good lanes) (sided_band axis e own row title (advised now) (band_depth now)) (onset_marks (begin_of e.cycles row.first) (course_y axis e own row.first) title before now)
    (good-sided axis e lanes own row title (advised now) (band_depth now) few (depth-most now) it)
    (good-onsets lanes (begin_of e.cycles row.first) (course_y axis e own row.first) title before now few (omega arith) x (y-least axis e holds own row.first within begun last) (y-most axis e own row.first))

good-bands-of : (air : Air) (axis : Span) (e : Parts) → HoldsPlanned axis e → (J : List Entry) → IsLegal air J → (lanes own address : ℕ) → lanes ≤ 16 → own < length e.crafts → AllByRecursion (Good lanes) (bands_of axis e J own address)
unfolding bands_of band_of_row
good-bands-of air axis e holds J l lanes own address few within =
    all-over (IsLongest (is_shown J own) (goes_on J own) e.cycles) (Good lanes) (band_of_row axis e J own address)
    (λ row it.
    good-row-band axis e holds lanes own row (bar_title address row (shown_in J own row.first)) (shown_in J own (row.first - 1)) (shown_in J own row.first) few within
    (record { begun = it.begun; in_order = it.in_order; in_run = it.in_run }))
    (shown_rows J e.cycles own) (are-rows (is_shown J own) (goes_on J own) e.cycles (is-run air J l own)).longest

good-bands : (air : Air) (e : Parts) (J : List Entry) → IsLegal air J → (lanes : ℕ) → lanes ≤ 16 → AllByRecursion (Good lanes) (bands_marks e J)
unfolding craft_bands
good-bands air e J l lanes few =
    all-range (Good lanes) (craft_bands (axis_of e J) e J) 0 (length e.crafts) (λ own first last. good-bands-of air (axis_of e J) e (holds-planned e J) J l lanes own (address_of e own) few (omega arith))

-- ---- bars

height-most : (tall : ℕ) (composite : Composite) → tall ≤ 400 → bar_height tall composite ≤ 400
height-most tall composite few = both-ways (λ (n : ℕ). n ≤ 400) composite.corrective tall (tall * 7 / 10) (λ met. few) (λ unmet. omega arith)

-- A bar stands between the ends of the axis.
pub record IsBetween (cycles : ℕ) (row : Row) : Type 0 where
  pub in_order : begin_of cycles row.first ≤ begin_of cycles (row.last + 1)
  pub right : begin_of cycles (row.last + 1) ≤ 17800

between : (cycles : ℕ) (row : Row) → 1 ≤ row.first → row.first ≤ row.last → row.last ≤ cycles → IsBetween cycles row
between cycles row first order last =
    let it = kept 15800 cycles (row.first - 1) ((row.last + 1) - 1) (omega arith) (omega arith) (omega arith) in
    record {
      in_order = (let order = it.in_order in omega (arith, order));
      right = begins-within cycles (row.last + 1) (omega arith) (omega arith);
    }

-- A lane is one of so many.
record IsAmong (lanes : ℕ) (lane : Lane) : Type 0 where
  top : 5500 ≤ lane.base
  bottom : lane.base ≤ 6000 + lanes_height lanes
  tall : lane.tall ≤ 400
  room : lane.room ≤ 880

record IsTall (pitch tall : ℕ) : Type 0 where
  least : 320 ≤ tall
  most : tall ≤ 400

tall-of : (pitch : ℕ) → 560 ≤ pitch → IsTall pitch (tall_in pitch)
unfolding tall_in
tall-of pitch least =
    both-ways (IsTall pitch) (nat_lt pitch 640) (pitch - 240) 400 (λ met. let low = ltb-true pitch 640 met in record { least = omega arith; most = omega arith })
    (λ unmet. record { least = omega arith; most = omega arith })

among : (lanes number : ℕ) → lanes ≤ 16 → number ≤ lanes → IsAmong lanes (lane_in (lane_pitch lanes) number)
unfolding lane_in lanes_height
among lanes number few within =
    let pitch = pitch-of lanes few in
    let tall = tall-of (lane_pitch lanes) pitch.least in
    let below = mul-le-mul_left (lane_pitch lanes) within in
    record { top = omega arith; bottom = omega arith; tall = tall.most; room = omega arith }

pub record Stands (lanes : ℕ) (bar : Bar) : Type 0 where
  pub right : bar.left + bar.width ≤ 17800
  pub top : 5500 ≤ bar.base
  pub bottom : bar.base ≤ 6000 + lanes_height lanes
  pub height : bar.height ≤ 400

good-word : (lanes : ℕ) (bar : Bar) (word title : List ℕ) → lanes ≤ 16 → Stands lanes bar → AllByRecursion (Good lanes) (word_marks bar word title)
unfolding word_marks
good-word lanes bar word title few s =
    let right = s.right in
    let top = s.top in
    let bottom = s.bottom in
    let x : word_x bar ≤ 20000 = omega arith in
    let y : word_y bar ≤ page_height lanes = omega arith in
    elim (cases_Bool (has_room bar (length word))) [
      | inl met ↦
          subst (AllByRecursion (Good lanes)) (sym (cond-true (has_room bar (length word)) (word_pair bar word title) [] met)) (
            good-halo lanes (word_x bar) (word_y bar) word_size anchors.Middle weights.Regular word title (omega arith) few x y,
            (good-words lanes (word_x bar) (word_y bar) word_size anchors.Middle weights.Regular word title (omega arith) few x y, tt),
          )
      | inr unmet ↦ subst (AllByRecursion (Good lanes)) (sym (cond-false (has_room bar (length word)) (word_pair bar word title) [] unmet)) tt
    ]

good-titled : (lanes : ℕ) (bar : Bar) (composite : Composite) (title : List ℕ) → lanes ≤ 16 → Stands lanes bar → AllByRecursion (Good lanes) (titled_bar bar composite title)
unfolding titled_bar
good-titled lanes bar composite title few s =
    let right = s.right in
    let top = s.top in
    let bottom = s.bottom in
    let height = s.height in
    all-append (Good lanes) (box_marks (advised composite) (bar_area bar) title) (word_marks bar (word_of composite) title)
    (good-boxes lanes bar.left (bar.base - bar.height) bar.width bar.height (advised composite) title few (omega arith) (omega arith))
    (good-word lanes bar (word_of composite) title few s)

good-bar : (lanes : ℕ) (lane : Lane) (cycles address : ℕ) (composite : Composite) (row : Row) → lanes ≤ 16 → IsAmong lanes lane → 1 ≤ row.first → row.first ≤ row.last → row.last ≤ cycles →
    AllByRecursion (Good lanes) (bar_marks cycles lane address composite row)
unfolding bar_marks
good-bar lanes lane cycles address composite row few there first order last =
    let b = between cycles row first order last in
    let one = b.in_order in
    let two = b.right in
    good-titled lanes (bar_of cycles lane row composite) composite (bar_title address row composite) few
    (record { right = omega (arith, one, two); top = there.top; bottom = there.bottom; height = height-most lane.tall composite there.tall })

good-bars : (air : Air) (e : Parts) (J : List Entry) → IsLegal air J → (own lanes : ℕ) (lane : Lane) (address : ℕ) → lanes ≤ 16 → IsAmong lanes lane → AllByRecursion (Good lanes) (bars e J own lane address)
unfolding bars
good-bars air e J l own lanes lane address few there =
    all-over (IsLongest (is_shown J own) (goes_on J own) e.cycles) (Good lanes) (row_marks e J own lane address)
    (λ row it. good-bar lanes lane e.cycles address (shown_in J own row.first) row few there it.begun it.in_order it.in_run) (shown_rows J e.cycles own)
    (are-rows (is_shown J own) (goes_on J own) e.cycles (is-run air J l own)).longest

good-lane : (air : Air) (it : LabelWords) (e : Parts) (J : List Entry) → IsLegal air J → (own lanes : ℕ) (lane : Lane) (address : ℕ) → lanes ≤ 16 → IsAmong lanes lane → AllByRecursion (Good lanes) (lane_marks it e J own lane address)
good-lane air it e J l own lanes lane address few there =
    all-append (Good lanes) (lane_head lane (name_of it address)) (bars e J own lane address) (
      good-line lanes 2000 lane.base 17800 lane.base (line_paint grid 15) [] (omega arith) few (omega arith) (omega arith) (omega arith) (omega arith),
      (good-words lanes 1880 lane.base 300 anchors.End weights.Regular (name_of it address) [] (omega arith) few (omega arith) (omega arith), tt),
    ) (good-bars air e J l own lanes lane address few there)

-- ---- lanes

filter-front : {X : Type 0} (p : X → Bool) (n : ℕ) (xs : List X) → length (filter p (take n xs)) ≤ length (filter p xs)
filter-front p zero xs = omega arith
filter-front p (suc n) [] = omega arith
filter-front p (suc n) (x ∷ xs) =
    let ih = filter-front p n xs in
    elim (cases_Bool (p x)) [
      | inl met ↦
          (let front = ap length (cond-true (p x) (x ∷ filter p (take n xs)) (filter p (take n xs)) met) in
          let all = ap length (cond-true (p x) (x ∷ filter p xs) (filter p xs) met) in
          omega arith)
      | inr unmet ↦
          (let front = ap length (cond-false (p x) (x ∷ filter p (take n xs)) (filter p (take n xs)) unmet) in
          let all = ap length (cond-false (p x) (x ∷ filter p xs) (filter p xs) unmet) in
          omega arith)
    ]

filter-few : {X : Type 0} (p : X → Bool) (xs : List X) → length (filter p xs) ≤ length xs
filter-few p [] = omega arith
filter-few p (x ∷ xs) =
    let ih = filter-few p xs in
    elim (cases_Bool (p x)) [
      | inl met ↦ (let all = ap length (cond-true (p x) (x ∷ filter p xs) (filter p xs) met) in omega arith)
      | inr unmet ↦ (let all = ap length (cond-false (p x) (x ∷ filter p xs) (filter p xs) unmet) in omega arith)
    ]

-- The lane of an aircraft is one of all lanes.
lane-among : (e : Parts) (own : ℕ) → lanes_of e ≤ 16 → IsAmong (lanes_of e) (lane_of e.crafts own)
lane-among e own few = among (lanes_of e) (active_among (take own e.crafts)) few (filter-front is_active own e.crafts)
  where
    is_active : CraftSpec → Bool
    is_active craft = is_active_kind craft.kind

good-craft : (air : Air) (it : LabelWords) (e : Parts) (J : List Entry) → IsLegal air J → lanes_of e ≤ 16 → (own : ℕ) → AllByRecursion (Good (lanes_of e)) (craft_marks it e J own)
unfolding craft_marks
good-craft air it e J l few own = by (slice_get e.crafts own)
  where
    by : (craft : Option CraftSpec) → AllByRecursion (Good (lanes_of e)) (option_map_or (marks_of_craft it e J own) craft [])
    by None = tt
    by (Some craft) =
        let lane = lane_of e.crafts own in
        elim (cases_Bool (is_active_kind craft.kind)) [
          | inl met ↦
              subst (AllByRecursion (Good (lanes_of e))) (sym (cond-true (is_active_kind craft.kind) (lane_marks it e J own lane craft.address) [] met))
              (good-lane air it e J l own (lanes_of e) lane craft.address few (lane-among e own few))
          | inr unmet ↦ subst (AllByRecursion (Good (lanes_of e))) (sym (cond-false (is_active_kind craft.kind) (lane_marks it e J own lane craft.address) [] unmet)) tt
        ]

-- ---- messages

-- What happens in the run stands in the box of the lanes.
record IsInPlot (x : ℕ) : Type 0 where
  left : 2000 ≤ x
  right : x ≤ 17800

event-within : (cycles commits : ℕ) → commits ≤ cycles → IsInPlot (event_x cycles commits)
unfolding event_x
event-within cycles commits few = elim (cases_eq commits 0) [
  | inl none ↦ subst IsInPlot (sym (cond-true (eqb commits 0) axis_begin (middle_of cycles commits) (eq-eqb commits 0 none))) (record { left = omega arith; right = omega arith })
  | inr some ↦
      (let one = begins-within cycles commits (omega arith) (omega arith) in
      let two = begins-within cycles (commits + 1) (omega arith) (omega arith) in
      subst IsInPlot (sym (cond-false (eqb commits 0) axis_begin (middle_of cycles commits) (ne_eqb commits 0 some))) (record { left = omega arith; right = omega (arith, one, two) }))
]

record IsNear (height : ℕ) (shaft : Shaft) : Type 0 where
  tail : shaft.tail_x ≤ 17870
  tip : shaft.tip_x ≤ 17870
  left : 1930 ≤ shaft.tip_x
  begins : shaft.tail_y + 600 ≤ height
  neck : shaft.neck_y ≤ height
  ends : shaft.tip_y ≤ height
  room : shaft.room ≤ 880

near : (lanes from to : ℕ) (sender receiver : Lane) → IsInPlot from → IsInPlot to → IsAmong lanes sender → IsAmong lanes receiver → IsNear (page_height lanes) (shaft_of from to sender receiver)
unfolding shaft_of
near lanes from to sender receiver f t a b =
    let one = f.left in
    let two = f.right in
    let three = t.left in
    let four = t.right in
    elim (cases_Bool (nat_lt sender.base receiver.base)) [
      | inl met ↦
          subst (IsNear (page_height lanes)) (sym (cond-true (nat_lt sender.base receiver.base) (down_shaft from to sender receiver) (up_shaft from to sender receiver) met))
          (record { tail = omega arith; tip = omega arith; left = omega arith; begins = omega arith; neck = omega arith; ends = omega arith; room = omega arith })
      | inr unmet ↦
          subst (IsNear (page_height lanes)) (sym (cond-false (nat_lt sender.base receiver.base) (down_shaft from to sender receiver) (up_shaft from to sender receiver) unmet))
          (record { tail = omega arith; tip = omega arith; left = omega arith; begins = omega arith; neck = omega arith; ends = omega arith; room = omega arith })
    ]

good-shaft-line : (height : ℕ) (shaft : Shaft) (paint : Paint) (title : List ℕ) → FitsPaint paint → height ≤ 60000 → IsNear height shaft →
    GoodTo height (figure (shapes.Segment (point_at shaft.tail_x shaft.tail_y) (point_at shaft.tip_x shaft.neck_y)) paint title)
good-shaft-line height shaft paint title fits few n =
    let tail = n.tail in
    let tip = n.tip in
    let begins = n.begins in
    line-to height shaft.tail_x shaft.tail_y shaft.tip_x shaft.neck_y paint title fits few (omega (arith, tail)) (omega (arith, begins)) (omega (arith, tip)) n.neck

good-head-points : (height : ℕ) (shaft : Shaft) → height ≤ 60000 → IsNear height shaft → AllByRecursion (GoodPointTo height) (head_points shaft)
good-head-points height shaft few n =
    let tip = n.tip in
    let wide : shaft.tip_x + 90 ≤ 20000 = omega (arith, tip) in
    let slim : shaft.tip_x - 90 ≤ 20000 = omega (arith, tip) in
    let there : shaft.tip_x ≤ 20000 = omega (arith, tip) in
    let one = point-to height (shaft.tip_x - 90) shaft.neck_y few slim n.neck in
    let two = point-to height (shaft.tip_x + 90) shaft.neck_y few wide n.neck in
    let three = point-to height shaft.tip_x shaft.tip_y few there n.ends in
    (one, (two, (three, tt)))

good-shaft : (height : ℕ) (shaft : Shaft) (color : Color) (title : List ℕ) → height ≤ 60000 → IsNear height shaft → AllByRecursion (GoodTo height) (shaft_marks shaft color title)
good-shaft height shaft color title few n =
    let line = good-shaft-line height shaft (line_paint color 40) title (omega arith) few n in
    (line, (traced-to height outlines.Closed (head_points shaft) (filled color color 30) title (omega arith) (good-head-points height shaft few n), tt))

good-arrow : (e : Parts) (arrow : Arrow) → lanes_of e ≤ 16 → IsTimely e arrow → AllByRecursion (Good (lanes_of e)) (arrow_marks e arrow)
unfolding arrow_marks
good-arrow e arrow few t =
    let from = event-within e.cycles arrow.sent_after t.sent in
    let to = event-within e.cycles arrow.taking.taken_after t.taken in
    let stands = near (lanes_of e) (event_x e.cycles arrow.sent_after) (event_x e.cycles arrow.taking.taken_after) (lane_of e.crafts arrow.taking.sender) (lane_of e.crafts arrow.taking.receiver) from to
    (lane-among e arrow.taking.sender few) (lane-among e arrow.taking.receiver few) in
    good-shaft (page_height (lanes_of e)) (arrow_shaft e arrow) (color_of arrow.after) (arrow_title (address_of e arrow.taking.sender) (address_of e arrow.taking.receiver) arrow) (low-page (lanes_of e) few) stands

good-arrows : (e : Parts) (J : List Entry) → IsLegal (air_of e) J → lanes_of e ≤ 16 → AllByRecursion (Good (lanes_of e)) (arrows_marks e J)
good-arrows e J l few = all-over (IsTimely e) (Good (lanes_of e)) (arrow_marks e) (λ arrow timely. good-arrow e arrow few timely) (arrows e J) (arrows-timely e J J l l)

-- ---- messages that were lost or spoilt

way-most : (room from to : ℕ) → room ≤ 880 → lost_way room from to ≤ 440
way-most room from to few = both-ways (λ (n : ℕ). n ≤ 440) (nat_lt (room / 2) ((to - from) / 3)) (room / 2) ((to - from) / 3) (λ met. omega arith)
    (λ unmet. let most = ltb-false (room / 2) ((to - from) / 3) unmet in omega arith)

lost-most : (shaft : Shaft) → shaft.room ≤ 880 → lost_y shaft ≤ shaft.tail_y + 440
unfolding lost_y
lost-most shaft few =
    let down = way-most shaft.room shaft.tail_y shaft.tip_y few in
    both-ways (λ (n : ℕ). n ≤ shaft.tail_y + 440) (nat_lt shaft.tail_y shaft.tip_y) (shaft.tail_y + lost_way shaft.room shaft.tail_y shaft.tip_y)
    (shaft.tail_y - lost_way shaft.room shaft.tip_y shaft.tail_y) (λ met. omega (arith, down)) (λ unmet. omega arith)

good-stroke : (height x y p q : ℕ) (title : List ℕ) → height ≤ 60000 → x ≤ 20000 → y ≤ height → p ≤ 20000 → q ≤ height → GoodTo height (stroke (point_at x y) (point_at p q) title)
good-stroke height x y p q title few a b c d = line-to height x y p q (line_paint ink 40) title (omega arith) few a b c d

good-cross-at : (height x y : ℕ) (title : List ℕ) → height ≤ 60000 → x + 70 ≤ 20000 → y + 70 ≤ height → AllByRecursion (GoodTo height) (cross_at x y title)
good-cross-at height x y title few right low = (
  good-stroke height (x - 70) (y - 70) (x + 70) (y + 70) title few (omega arith) (omega arith) right low,
  (good-stroke height (x - 70) (y + 70) (x + 70) (y - 70) title few (omega arith) low right (omega arith), tt),
)

good-cross : (height : ℕ) (shaft : Shaft) (title : List ℕ) → height ≤ 60000 → IsNear height shaft → AllByRecursion (GoodTo height) (cross_marks shaft title)
good-cross height shaft title few n =
    let tail = n.tail in
    let begins = n.begins in
    let most = lost-most shaft n.room in
    let right : shaft.tail_x + 70 ≤ 20000 = omega (arith, tail) in
    let low : lost_y shaft + 70 ≤ height = omega (arith, most, begins) in
    (good-stroke height shaft.tail_x shaft.tail_y shaft.tail_x (lost_y shaft) title few (omega (arith, tail)) (omega (arith, begins)) (omega (arith, tail)) (omega (arith, low)), good-cross-at height shaft.tail_x (lost_y shaft) title few right low)

good-hollow : (height : ℕ) (shaft : Shaft) (title : List ℕ) → height ≤ 60000 → IsNear height shaft → AllByRecursion (GoodTo height) (hollow_marks shaft title)
good-hollow height shaft title few n =
    let line = good-shaft-line height shaft (dashed_paint ink 40 dashes.Short) title (omega arith) few n in
    (line, (traced-to height outlines.Closed (head_points shaft) (line_paint ink 30) title (omega arith) (good-head-points height shaft few n), tt))

good-sign : (height : ℕ) (sign : Sign) (shaft : Shaft) (title : List ℕ) → height ≤ 60000 → IsNear height shaft → AllByRecursion (GoodTo height) (sign_marks sign shaft title)
good-sign height Cross shaft title few n = good-cross height shaft title few n
good-sign height HollowHead shaft title few n = good-hollow height shaft title few n

beside-most : (shaft : Shaft) → count_x shaft ≤ shaft.tail_x + 280
beside-most shaft = elim (cases_Bool (nat_lt shaft.tail_y shaft.tip_y)) [
  | inl met ↦ subst (λ (n : ℕ). n ≤ shaft.tail_x + 280) (sym (cond-true (nat_lt shaft.tail_y shaft.tip_y) (shaft.tail_x - 280) (shaft.tail_x + 280) met)) (omega arith)
  | inr unmet ↦ subst (λ (n : ℕ). n ≤ shaft.tail_x + 280) (sym (cond-false (nat_lt shaft.tail_y shaft.tip_y) (shaft.tail_x - 280) (shaft.tail_x + 280) unmet)) (omega arith)
]

good-count : (height : ℕ) (shaft : Shaft) (row : MessageRow) (title : List ℕ) → height ≤ 60000 → IsNear height shaft → AllByRecursion (GoodTo height) (count_marks shaft row title)
unfolding count_marks
good-count height shaft row title few n =
    let tail = n.tail in
    let begins = n.begins in
    let most = lost-most shaft n.room in
    let right = beside-most shaft in
    let words = decimal ((row.last + 1) - row.first) in
    let x : count_x shaft ≤ 20000 = omega (arith, right, tail) in
    let y : lost_y shaft + 80 ≤ height = omega (arith, most, begins) in
    elim (cases_Bool (row.first == row.last)) [
      | inl met ↦ subst (AllByRecursion (GoodTo height)) (sym (cond-true (row.first == row.last) [] (count_words shaft words title) met)) tt
      | inr unmet ↦
          subst (AllByRecursion (GoodTo height)) (sym (cond-false (row.first == row.last) [] (count_words shaft words title) unmet)) (
            halo-to height (count_x shaft) (lost_y shaft + 80) 220 anchors.Middle weights.Regular words title (omega arith) few x y,
            (words-to height (count_x shaft) (lost_y shaft + 80) 220 anchors.Middle weights.Regular words title (omega arith) few x y, tt),
          )
    ]

good-row : (e : Parts) (sign : Sign) (sent : SentRow) → lanes_of e ≤ 16 → IsInRun e sent → AllByRecursion (Good (lanes_of e)) (drawn_row e sign sent)
unfolding drawn_row
good-row e sign sent few t =
    let x = event_x e.cycles sent.sent_after in
    let at = event-within e.cycles sent.sent_after t in
    let shaft = row_shaft e sent in
    let title = row_title (address_of e sent.sender) (address_of e sent.receiver) sign sent in
    let stands = near (lanes_of e) x x (lane_of e.crafts sent.sender) (lane_of e.crafts sent.receiver) at at (lane-among e sent.sender few) (lane-among e sent.receiver few) in
    all-append (Good (lanes_of e)) (sign_marks sign shaft title) (count_marks shaft sent.row title) (good-sign (page_height (lanes_of e)) sign shaft title (low-page (lanes_of e) few) stands) (good-count (page_height (lanes_of e)) shaft sent.row title (low-page (lanes_of e) few) stands)

good-rows : (e : Parts) (J : List Entry) (sign : Sign) → IsLegal (air_of e) J → lanes_of e ≤ 16 → AllByRecursion (Good (lanes_of e)) (mishaps_marks e J sign)
good-rows e J sign l few = all-over (IsInRun e) (Good (lanes_of e)) (drawn_row e sign) (λ sent t. good-row e sign sent few t) (sent_rows e J sign) (rows-in-run e J sign J l)

good-messages : (e : Parts) (J : List Entry) → IsLegal (air_of e) J → lanes_of e ≤ 16 → AllByRecursion (Good (lanes_of e)) (messages_marks e J)
good-messages e J l few =
    all-append (Good (lanes_of e)) (arrows_marks e J) (mishaps_marks e J Cross ++ mishaps_marks e J HollowHead) (good-arrows e J l few)
    (all-append (Good (lanes_of e)) (mishaps_marks e J Cross) (mishaps_marks e J HollowHead) (good-rows e J Cross l few) (good-rows e J HollowHead l few))

-- ---- the legend

good-item : (height top x : ℕ) (kind : Advised) (words : List ℕ) → height ≤ 60000 → top + 2300 ≤ height → x ≤ 12000 → AllByRecursion (GoodTo height) (item_marks top x kind words)
unfolding item_marks
good-item height top x kind words few low right =
    all-append (GoodTo height) (box_marks kind (area_at x (top + 200) 700 280) []) (worded (letters (point_at (x + 850) (top + 430)) 260 anchors.Start weights.Regular) words [] ∷ [])
    (boxes-to height x (top + 200) 700 280 kind [] few (omega arith) (omega arith))
    (words-to height (x + 850) (top + 430) 260 anchors.Start weights.Regular words [] (omega arith) few (omega arith) (omega arith), tt)

good-sample : (height top x y : ℕ) (sign : Sign) (words : List ℕ) → height ≤ 60000 → top + 2300 ≤ height → 2000 ≤ x → x ≤ 17000 → y ≤ top + 300 → AllByRecursion (GoodTo height) (sample_marks top x y sign words)
unfolding sample_marks
good-sample height top x y sign words few low left right high =
    all-append (GoodTo height) (sign_marks sign (sample_shaft x y) []) (worded (letters (point_at (x + 200) (top + 430)) 260 anchors.Start weights.Regular) words [] ∷ [])
    (good-sign height sign (sample_shaft x y) [] few (record { tail = omega arith; tip = omega arith; left = omega arith; begins = omega arith; neck = omega arith; ends = omega arith; room = omega arith }))
    (words-to height (x + 200) (top + 430) 260 anchors.Start weights.Regular words [] (omega arith) few (omega arith) (omega arith), tt)

good-legend : (height top : ℕ) → height ≤ 60000 → top + 2300 ≤ height → AllByRecursion (GoodTo height) (legend_marks top)
good-legend height top few low =
    all-append (GoodTo height) (item 2000 Traffic (codes "traffic")) _ (good-item height top 2000 Traffic (codes "traffic") few low (omega arith))
    (all-append (GoodTo height) (item 5200 Up (codes "up")) _ (good-item height top 5200 Up (codes "up") few low (omega arith))
    (all-append (GoodTo height) (item 8400 Down (codes "down")) _ (good-item height top 8400 Down (codes "down") few low (omega arith))
    (all-append (GoodTo height) (item 11600 Both (codes "up and down")) _ (good-item height top 11600 Both (codes "up and down") few low (omega arith))
    (all-append (GoodTo height) (sample 14900 (top + 210) Cross (codes "lost")) _ (good-sample height top 14900 (top + 210) Cross (codes "lost") few low (omega arith) (omega arith) (omega arith))
    (all-append (GoodTo height) (sample 16800 (top + 140) HollowHead (codes "spoilt")) _ (good-sample height top 16800 (top + 140) HollowHead (codes "spoilt") few low (omega arith) (omega arith) (omega arith)) (
      words-to height 2000 (top + 900) 260 anchors.Start weights.Regular height_words [] (omega arith) few (omega arith) (omega arith),
      (
        words-to height 2000 (top + 1250) 260 anchors.Start weights.Regular arrow_words [] (omega arith) few (omega arith) (omega arith),
        (
          words-to height 2000 (top + 1600) 260 anchors.Start weights.Regular band_words [] (omega arith) few (omega arith) (omega arith),
          (words-to height 2000 (top + 1950) 260 anchors.Start weights.Regular modelled_words [] (omega arith) few (omega arith) (omega arith), tt),
        ),
      ),
    ))))))
  where
    item : ℕ → Advised → List ℕ → List Mark
    item x kind words = item_marks top x kind words

    sample : ℕ → ℕ → Sign → List ℕ → List Mark
    sample x y sign words = sample_marks top x y sign words

-- ---- the marks of the labels

letter-most : (x before : ℕ) → x ≤ 17800 → before ≤ 26 → letter_x x before ≤ 17800
unfolding letter_x
letter-most x before right few = elim (cases_Bool (nat_lt x 9900)) [
  | inl met ↦
      (let near = ltb-true x 9900 met in
      subst (λ (n : ℕ). n ≤ 17800) (sym (cond-true (nat_lt x 9900) (x + 180 * before) (x - 180 * before) met)) (omega (arith, near)))
  | inr unmet ↦ subst (λ (n : ℕ). n ≤ 17800) (sym (cond-false (nat_lt x 9900) (x + 180 * before) (x - 180 * before) unmet)) (omega arith)
]

good-line-at : (lanes x : ℕ) (title : List ℕ) → lanes ≤ 16 → x ≤ 17800 → AllByRecursion (Good lanes) (line_at lanes x title)
good-line-at lanes x title few right = (good-line lanes x 1500 x (plot_bottom lanes) (dashed_paint note 30 dashes.Short) title (omega arith) few (omega arith) (omega arith) (omega arith) (omega arith), tt)

good-letter : (lanes at : ℕ) (there : Bool) (letter title : List ℕ) → lanes ≤ 16 → at ≤ 17800 → AllByRecursion (Good lanes) (letter_where there at letter title)
good-letter lanes at true letter title few beside = (
  good-halo lanes at 1440 240 anchors.Middle weights.Regular letter title (omega arith) few (omega arith) (omega arith),
  (good-words lanes at 1440 240 anchors.Middle weights.Regular letter title (omega arith) few (omega arith) (omega arith), tt),
)
good-letter lanes at false letter title few beside = tt

good-marked : (it : LabelWords) (cycles lanes : ℕ) (marked : Marked) → AreLabels it → lanes ≤ 16 → IsMarked it cycles marked → AllByRecursion (Good lanes) (line_of it cycles lanes marked)
unfolding line_of
good-marked it cycles lanes marked labels few is =
    let there = is.there in
    let most = labels.few in
    let begun = is.begun in
    let run = is.in_run in
    let x = begin_of cycles marked.cycle in
    let right = begins-within cycles marked.cycle (omega arith) (omega arith) in
    let before = count-most it marked.cycle marked.cycle marked.place in
    let title = mark_title it marked in
    let at = letter_of it cycles marked in
    let shown = has_letter it cycles marked in
    all-append (Good lanes) (line_at lanes x title) (letter_where shown at (letter_text marked.place) title) (good-line-at lanes x title few right)
    (good-letter lanes at shown (letter_text marked.place) title few (letter-most x (marked_before it marked) right (omega (arith, before))))

good-lines : (it : LabelWords) (cycles lanes : ℕ) → AreLabels it → lanes ≤ 16 → AllByRecursion (Good lanes) (lines_marks it cycles lanes)
good-lines it cycles lanes labels few =
    all-over (IsMarked it cycles) (Good lanes) (line_of it cycles lanes) (λ marked is. good-marked it cycles lanes marked labels few is) (all_marked it cycles) (each-marked it cycles (length it.marks) (omega arith))

good-row-at : (height y : ℕ) (letter cycle text : List ℕ) → height ≤ 60000 → y ≤ height → AllByRecursion (GoodTo height) (row_at y letter cycle text)
good-row-at height y letter cycle text few low = (
  words-to height 2000 y 260 anchors.Start weights.Bold letter [] (omega arith) few (omega arith) low,
  (words-to height 2400 y 260 anchors.Start weights.Regular cycle [] (omega arith) few (omega arith) low, (words-to height 3900 y 260 anchors.Start weights.Regular text [] (omega arith) few (omega arith) low, tt)),
)

good-row-of : (height top : ℕ) (it : LabelWords) (cycles : ℕ) (marked : Marked) → height ≤ 60000 → top + list_height it cycles ≤ height → IsMarked it cycles marked → AllByRecursion (GoodTo height) (row_of top it cycles marked)
unfolding row_of
good-row-of height top it cycles marked few low is =
    let below = count-below it 1 cycles marked.place (length it.marks) is.there (is-counted it cycles marked is) in
    good-row-at height ((top + 100) + 400 * row_number it cycles marked) (letter_text marked.place) (label_of it.start marked.cycle) (mark_text it marked.place) few (omega (arith, below, low))

good-list : (height top : ℕ) (it : LabelWords) (cycles : ℕ) → height ≤ 60000 → top + list_height it cycles ≤ height → AllByRecursion (GoodTo height) (list_marks top it cycles)
good-list height top it cycles few low =
    all-over (IsMarked it cycles) (GoodTo height) (row_of top it cycles) (λ marked is. good-row-of height top it cycles marked few low is) (all_marked it cycles) (each-marked it cycles (length it.marks) (omega arith))

-- ---- the panels of a pair

-- A mark lies within the whole page, and its numbers fit.
abbrev GoodPage : ℕ → ℕ → Mark → Type 0
GoodPage lanes below mark = GoodTo (page_height lanes + below) mark

lifted : (inner outer : Bounds) → AreInside inner outer → (marks : List Mark) → AllByRecursion (λ mark. IsMarkWithin inner mark × FitsMark mark) marks → AllByRecursion (λ mark. IsMarkWithin outer mark × FitsMark mark) marks
lifted inner outer inside [] good = tt
lifted inner outer inside (mark ∷ marks) good = ((wider inner outer inside mark good.0.0, good.0.1), lifted inner outer inside marks good.1)

above : (lanes below : ℕ) (marks : List Mark) → AllByRecursion (Good lanes) marks → AllByRecursion (GoodPage lanes below) marks
above lanes below marks good = lifted (bounds_of lanes) (page_bounds lanes below) (record { left = omega arith; top = omega arith; right = omega arith; bottom = omega arith }) marks good

good-panel : (it : LabelWords) (e : Parts) (height top : ℕ) (distance : Distance) (pair : NearPair) → top + 3400 ≤ height → top ≤ 40000 → IsPair e pair → AllByRecursion (GoodTo height) (distance_marks top e it distance pair)
good-panel it e height top distance pair high few is =
    lifted (bounds_from top) (bounds_to height) (record { left = omega arith; top = omega arith; right = omega arith; bottom = omega arith }) (distance_marks top e it distance pair) (are-within top e it distance pair few is)

good-tested : (profile : Profile) (it : LabelWords) (e : Parts) (height top : ℕ) (tested : Option TestedPair) → top + tests_height profile ≤ height → top ≤ 40000 → AllByRecursion (GoodTo height) (tested_marks top it e (told_pair profile tested))
good-tested Two it e height top tested high few = tt
good-tested One it e height top None high few = tt
good-tested One it e height top (Some tested) high few =
    lifted (seconds_part top) (bounds_to height) (record { left = omega arith; top = omega arith; right = omega arith; bottom = omega arith }) (seconds_marks top e it tested) (seconds-within top e it tested few)

good-panels : (it : LabelWords) (e : Parts) (height top : ℕ) (pair : Option NearPair) → top + panels_height e.profile pair ≤ height → top ≤ 30000 → height ≤ 60000 → IsNearest e pair → AllByRecursion (GoodTo height) (panel_marks top it e pair)
good-panels it e height top None low high few nearest = tt
good-panels it e height top (Some pair) low high few nearest =
    let is = is-pair e pair nearest in
    let tested = own_of e pair.one pair.other in
    all-append (GoodTo height) (both_marks top it e pair) (tested_marks (top + 3400 + 3400) it e (told_pair e.profile tested))
    (all-append (GoodTo height) (distance_marks top e it Slant pair) (distance_marks (top + 3400) e it Vertical pair)
    (good-panel it e height top Slant pair (omega arith) (omega arith) is) (good-panel it e height (top + 3400) Vertical pair (omega arith) (omega arith) is))
    (good-tested e.profile it e height (top + 3400 + 3400) tested (omega arith) (omega arith))

-- ---- the plan and what the crews heard

is-approach : (e : Parts) (pair : Option NearPair) → IsNearest e pair → IfSome (approach_of pair) (IsApproach e)
is-approach e None nearest = tt
is-approach e (Some pair) nearest = let is = is-pair e pair nearest in record { one = is.one; other = is.other; begun = is.begun; in_run = is.in_run }

good-plan : (it : LabelWords) (e : Parts) (height top : ℕ) (pair : Option NearPair) → top + 6600 ≤ height → top ≤ 40000 → 1 ≤ e.cycles → IsNearest e pair → AllByRecursion (GoodTo height) (plan_marks top e it.start it (approach_of pair))
good-plan it e height top pair low high some nearest =
    lifted (part_from top) (bounds_to height) (record { left = omega arith; top = omega arith; right = omega arith; bottom = omega arith }) (plan_marks top e it.start it (approach_of pair))
    (plan-within top e it.start it (approach_of pair) high some (is-approach e pair nearest)).panel

good-heard : (it : LabelWords) (e : Parts) (J : List Entry) (height top : ℕ) → top + 6600 ≤ height → top ≤ 40000 → AllByRecursion (GoodTo height) (heard_marks top e J it)
good-heard it e J height top low high =
    lifted (list_from top) (bounds_to height) (record { left = omega arith; top = omega arith; right = omega arith; bottom = omega arith }) (heard_marks top e J it) (are-in-list top e J it high)

-- ---- all of it

panels-most : (profile : Profile) (pair : Option NearPair) → panels_height profile pair ≤ 9900
panels-most profile None = omega arith
panels-most One (Some pair) = omega arith
panels-most Two (Some pair) = omega arith

below-most : (it : LabelWords) (e : Parts) → AreLabels it → below_of it e ≤ 26900
below-most it e labels =
    let panels = panels-most e.profile (nearest_pair e) in
    let few = labels.few in
    let count = count-most it 1 e.cycles (length it.marks) in
    omega (arith, panels, few, count)

pub are-good : (it : LabelWords) (e : Parts) (J : List Entry) → AreLabels it → IsEncounter e → IsLegal (air_of e) J → lanes_of e ≤ 16 → AllByRecursion (λ (s : Section). AllByRecursion (GoodPage (lanes_of e) (below_of it e)) s.marks) (sections it e J)
are-good it e J labels valid l few =
    let n = lanes_of e in
    let below = below_of it e in
    let most = below-most it e labels in
    let high = lanes-most n few in
    let height = page_height n + below in
    let tall : height ≤ 60000 = omega (arith, most, high) in
    let lanes = all-range (Good n) (craft_marks it e J) 0 (length e.crafts) (λ own first last. good-craft (air_of e) it e J l few own) in
    let bands = good-bands (air_of e) e J l n few in
    let panels = good-panels it e height (panels_top n) (nearest_pair e) (omega arith) (omega (arith, high)) tall (nearest-is e valid) in
    let panels_low = panels-most e.profile (nearest_pair e) in
    let plan = good-plan it e height (plan_top e) (nearest_pair e) (omega arith) (omega (arith, high, panels_low)) valid.run.length.0 (nearest-is e valid) in
    let heard = good-heard it e J height (plan_top e) (omega arith) (omega (arith, high, panels_low)) in
    let legend = good-legend height (legend_top e) tall (omega arith) in
    let list = good-list height (list_top e) it e.cycles tall (omega arith) in (
      above n below (head_marks it e J (nearest_pair e)) (good-head it e J (nearest_pair e) n few),
      (
        above n below (time_marks e.cycles it.start n) (good-time n e.cycles it.start few),
        (
          above n below (lines_marks it e.cycles n) (good-lines it e.cycles n labels few),
          (
            above n below (bands_marks e J) bands,
            (
              above n below (altitude_marks it e J) (good-altitude it e J n few),
              (above n below (messages_marks e J) (good-messages e J l few), (above n below (lanes_marks it e J) lanes, (panels, (plan, (heard, (legend, (list, tt))))))),
            ),
          ),
        ),
      ),
    )

each-section : (P Q : Mark → Type 0) (sections : List Section) → AllByRecursion (λ (s : Section). AllByRecursion (λ m. P m × Q m) s.marks) sections →
    AllByRecursion (λ (s : Section). AllByRecursion P s.marks) sections × AllByRecursion (λ (s : Section). AllByRecursion Q s.marks) sections
each-section P Q [] h = (tt, tt)
each-section P Q (s ∷ rest) h =
    let more = each-section P Q rest h.1 in
    ((all-left P Q s.marks h.0, more.0), (all-right P Q s.marks h.0, more.1))

fits-page : (lanes below : ℕ) → lanes ≤ 16 → below ≤ 26900 → FitsFrame (frame_of lanes below)
fits-page lanes below few small_below =
    let most = lanes-most lanes few in
    record {
      width = omega arith;
      height = omega arith;
      window = record { corner = (point-to (page_height lanes) 2000 5100 (low-page lanes few) (omega arith) (omega arith)).1; width = omega arith; height = omega arith };
    }

pub is-sound : (it : LabelWords) (e : Parts) (J : List Entry) → AreLabels it → IsEncounter e → length e.crafts ≤ 16 → IsLegal (air_of e) J → IsSound it e J
unfolding picture_lines
is-sound it e J labels valid most l =
    let few : lanes_of e ≤ 16 = (let it = filter-few is_active e.crafts in omega (arith, it)) in
    let both = each-section (IsMarkWithin (page_bounds (lanes_of e) (below_of it e))) FitsMark (sections it e J) (are-good it e J labels valid l few) in
    record {
      within = both.0;
      formed = form (page it e) (title_text e) description (sections it e J) (fits-page (lanes_of e) (below_of it e) few (below-most it e labels)) both.1;
    }
  where
    is_active : CraftSpec → Bool
    is_active craft = is_active_kind craft.kind
