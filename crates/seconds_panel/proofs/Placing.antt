-- Where the marks of the panel stand.
use Rattle.std.proofs.Common.{◌≡◌, ℕ, ◌+◌, ◌-◌, ◌*◌, ◌<◌, ◌≤◌, Bool, true, false, List, [], ◌∷◌, pos, ◌-ℤ◌, unsigned_abs, min, is_some, Option, Some, None, refl, sym, ap, ◌∙◌, subst, arith, inl, inr}
use Rattle.std.proofs.lemmas.Bool.{cases_Bool, cond-false, cond-true}
use Rattle.std.proofs.lemmas.Int.{ints}
use Rattle.std.proofs.Math.Nat.{add-mul}
use Rattle.std.specs.Prelude.{◌&&◌, ◌==◌, unwrap_or}
use Rattle.std.specs.List.{AllByRecursion, flat_map}
use Rattle.acas_base.specs.Encounter.{Parts}
use Rattle.equal_rows.proofs.Rowing.{are-rows}
use Rattle.equal_rows.specs.Rows.{AreRows, IsLongest, IsRun}
use Rattle.equal_rows.specs.declared.row.Row.{Row}
use Rattle.labels.specs.Labels.{LabelWords}
use Rattle.page_marks.proofs.Bounded.{AreSmall, Good, IsPlace, all-append, all-over, all-points, all-range, at-point, good-line, good-words, is-point}
use Rattle.page_marks.proofs.Ticking.{begins, good-dot, good-frame, good-ticks, good-value-tick}
use Rattle.page_marks.specs.Frame.{dot_mark, frame_marks}
use Rattle.page_marks.specs.Places.{point_at}
use Rattle.page_marks.specs.Ticks.{HoldsTicks, IsHeight, time_ticks}
use Rattle.page_marks.specs.Within.{IsWithin}
use Rattle.plot_axes.proofs.Shares.{kept}
use Rattle.plot_axes.specs.Scale.{share}
use Rattle.plot_axes.specs.Time.{begin_of}
use Rattle.seconds_panel.specs.Laws.{AreInOrder, AreLines, ArePoints, AreWithin, HasPoint, IsShown, bounds_from}
use Rattle.seconds_panel.specs.Lines.{most_seconds, plot_bottom, plot_height, plot_top, row_length, row_line, row_mark, row_marks, row_title, second_y, series_color, series_marks, series_name, series_paint, value_point}
use Rattle.seconds_panel.specs.Panel.{called, heading_text, legend_at, legend_marks, lines_marks, note_text, second_tick, second_ticks, seconds_marks, tick_place, tick_text}
use Rattle.seconds_panel.specs.Seconds.{goes_on, is_told, told_rows, seconds_in, value_in}
use Rattle.seconds_panel.specs.declared.own.TestedPair.{TestedPair}
use Rattle.seconds_panel.specs.declared.series.Series.{Series}
use Rattle.seconds_panel.specs.declared.series.Series.TheVariants.{TrafficRange, ResolutionRange, ResolutionAltitude, TrafficTau, ResolutionTau}
use Rattle.svg_text.specs.Fitting.{FitsPaint, IsPoint}
use Rattle.svg_text.specs.Marks.{Mark}
use Rattle.svg_text.specs.declared.shapes.Anchor.TheVariants as anchors
use Rattle.svg_text.specs.declared.shapes.Weight.TheVariants as weights

-- ---- the rows of a line

-- Before the first cycle nothing is told.
pub nothing-told : (e : Parts) (pair : TestedPair) (series : Series) → is_told e pair series 0 ≡ false
unfolding value_in seconds_in
nothing-told e pair series = refl

pub nothing-goes : (e : Parts) (pair : TestedPair) (series : Series) → goes_on e pair series 0 ≡ false
nothing-goes e pair series = ap (λ (b : Bool). b && is_told e pair series 1) (nothing-told e pair series)

both-told : (a b : Bool) → a && b ≡ true → a ≡ b
both-told true b h = sym h
both-told false b h = absurd (cc)

are-run : (e : Parts) (pair : TestedPair) (series : Series) → IsRun (is_told e pair series) (goes_on e pair series)
are-run e pair series = record {
  quiet = nothing-told e pair series;
  alike = λ cycle on. both-told (is_told e pair series cycle) (is_told e pair series (cycle + 1)) on;
}

pub are-lines : (e : Parts) (pair : TestedPair) (series : Series) → AreLines e pair series
are-lines e pair series = are-rows (is_told e pair series) (goes_on e pair series) e.cycles (are-run e pair series)

-- ---- heights

pub record IsPart (end value : ℕ) : Type 0 where
  pub whole : unsigned_abs (pos end -ℤ pos 0) ≡ end
  pub part : unsigned_abs (pos value -ℤ pos 0) ≡ value

is-part : (end value : ℕ) → IsPart end value
is-part end value = record { whole = omega (arith, ints); part = omega (arith, ints) }

y-is : (top seconds : ℕ) → second_y top seconds ≡ plot_bottom top - share 2000 80 (min seconds 80)
unfolding second_y
y-is top seconds =
    let p = is-part 80 (min seconds 80) in
    let part = p.part in
    rw part refl

within-axis : (seconds : ℕ) → min seconds 80 ≤ 80
within-axis seconds = omega arith

pub shows : (top seconds : ℕ) → IsShown top seconds (second_y top seconds)
shows top seconds =
    let value = min seconds 80 in
    let y = y-is top seconds in
    let k = kept 2000 80 value value (omega arith) (omega arith) (within-axis seconds) in
    let within = k.within in
    let not_past = k.not_past in
    let near = k.near in
    rw y (record {
      above = omega (arith, within);
      below = omega arith;
      not_past = omega (arith, within, not_past);
      near = omega (arith, within, near);
    })

pub in-order : (top : ℕ) → AreInOrder top
in-order top less more order =
    let one = y-is top less in
    let two = y-is top more in
    let k = (kept 2000 80 (min less 80) (min more 80) (omega arith) (omega arith) (within-axis more)).in_order in
    omega (arith, one, two, k)

-- ---- points

pub record IsSome (option : Option ℕ) : Type 0 where
  pub value : ℕ
  pub is : option ≡ Some value
  pub inside : unwrap_or option 0 ≡ value

some-of : (option : Option ℕ) → is_some option ≡ true → IsSome option
some-of None h = absurd (cc)
some-of (Some value) h = record { value = value; is = refl; inside = refl }

pub are-points : (top : ℕ) (e : Parts) (pair : TestedPair) (series : Series) → ArePoints top e pair series
unfolding value_point
are-points top e pair series cycle told =
    let some = some-of (value_in e pair series cycle) told in
    record {
      seconds = some.value;
      told = some.is;
      point = ap (λ (n : ℕ). point_at (begin_of e.cycles cycle) (second_y top n)) some.inside;
      shown = shows top some.value;
    }

-- ---- marks

small : (top : ℕ) → top ≤ 40000 → AreSmall (bounds_from top)
small top most = record { right = omega arith; bottom = omega arith }

place : (top x y : ℕ) → x ≤ 20000 → top ≤ y → y ≤ top + 3100 → IsPlace (bounds_from top) x y
place top x y wide low tall = record { left = omega arith; right = omega arith; top = omega arith; bottom = omega arith }

-- So many seconds stand in the box.
y-place : (top x seconds : ℕ) → x ≤ 20000 → IsPlace (bounds_from top) x (second_y top seconds)
y-place top x seconds wide =
    let shown = shows top seconds in
    let above = shown.above in
    let below = shown.below in
    place top x (second_y top seconds) wide (omega arith) (omega arith)

good-tick : (top number : ℕ) → top ≤ 40000 → AllByRecursion (Good (bounds_from top)) (second_tick top number)
unfolding second_tick
good-tick top number most =
    let seconds = 20 * number in
    let y = second_y top seconds in
    let shown = shows top seconds in
    let above = shown.above in
    let below = shown.below in
    good-value-tick (bounds_from top) y (tick_text seconds) (small top most) (y-place top 2000 seconds (omega arith)) (y-place top 17800 seconds (omega arith)) (place top 1880 (y + 80) (omega arith) (omega arith) (omega arith))

height : (top y : ℕ) → top ≤ y → y ≤ top + 3100 → IsHeight (bounds_from top) y
height top y upper lower = record { above = upper; below = lower }

holds-ticks : (top : ℕ) → top ≤ 40000 → HoldsTicks (bounds_from top) (tick_place top)
holds-ticks top most = record {
  left = omega arith;
  right = omega arith;
  top = height top (plot_top top) (omega arith) (omega arith);
  bottom = height top (plot_bottom top) (omega arith) (omega arith);
  label = height top (plot_bottom top + 300) (omega arith) (omega arith);
  size = omega arith;
  wide = omega arith;
  tall = omega arith;
}

paint-fits : (series : Series) → FitsPaint (series_paint series)
paint-fits series = omega arith

good-legend-at : (top y : ℕ) (series : Series) → top ≤ 40000 → top ≤ y → y + 100 ≤ top + 3100 → AllByRecursion (Good (bounds_from top)) (legend_at y series)
unfolding legend_at
good-legend-at top y series most upper lower = (
  good-words (bounds_from top) 17900 y 220 anchors.Start weights.Regular (series_name series) [] (omega arith) (small top most) (place top 17900 y (omega arith) upper (omega arith)),
  (
    good-line (bounds_from top) 17900 (y + 100) 19300 (y + 100) (series_paint series) (series_name series) (paint-fits series) (small top most)
        (place top 17900 (y + 100) (omega arith) (omega arith) lower) (place top 19300 (y + 100) (omega arith) (omega arith) lower),
    tt,
  ),
)

good-legend : (top : ℕ) → top ≤ 40000 → AllByRecursion (Good (bounds_from top)) (legend_marks top)
good-legend top most =
    let P = Good (bounds_from top) in
    let at = λ (n : ℕ) (series : Series) (few : n ≤ 2300). good-legend-at top (top + n) series most (omega arith) (omega arith) in
    all-append P (legend_at (top + 700) TrafficRange) _ (at 700 TrafficRange (omega arith))
    (all-append P (legend_at (top + 1100) TrafficTau) _ (at 1100 TrafficTau (omega arith))
    (all-append P (legend_at (top + 1500) ResolutionRange) _ (at 1500 ResolutionRange (omega arith))
    (all-append P (legend_at (top + 1900) ResolutionAltitude) _ (at 1900 ResolutionAltitude (omega arith)) (at 2300 ResolutionTau (omega arith)))))

-- ---- lines

-- A row of cycles of the run.
pub record IsRow (cycles : ℕ) (row : Row) : Type 0 where
  pub begun : 1 ≤ row.first
  pub in_order : row.first ≤ row.last
  pub in_run : row.last ≤ cycles

value-place : (top : ℕ) (e : Parts) (pair : TestedPair) (series : Series) (cycle : ℕ) → 1 ≤ cycle → cycle ≤ e.cycles → IsPlace (bounds_from top) (begin_of e.cycles cycle) (second_y top (unwrap_or (value_in e pair series cycle) 0))
value-place top e pair series cycle first last =
    let right = begins e.cycles cycle (omega arith) (omega arith) in
    y-place top (begin_of e.cycles cycle) (unwrap_or (value_in e pair series cycle) 0) (omega (arith, right))

good-through : (top : ℕ) (e : Parts) (pair : TestedPair) (series : Series) (row : Row) (title : List ℕ) → top ≤ 40000 → IsRow e.cycles row → Good (bounds_from top) (row_line top e pair series row title)
unfolding value_point
good-through top e pair series row title most is =
    let bounds = bounds_from top in
    let begun = is.begun in
    let order = is.in_order in
    let in_run = is.in_run in
    let x = λ (cycle : ℕ). begin_of e.cycles cycle in
    let y = λ (cycle : ℕ). second_y top (unwrap_or (value_in e pair series cycle) 0) in
    let places : (cycle : ℕ) → row.first ≤ cycle → cycle < row.first + row_length row → IsPlace bounds (begin_of e.cycles cycle) (second_y top (unwrap_or (value_in e pair series cycle) 0)) =
    λ cycle first last. value-place top e pair series cycle (omega arith) (omega arith) in (
      all-points (IsWithin bounds 0) (value_point top e pair series) row.first (row_length row) (λ cycle first last. at-point bounds (x cycle) (y cycle) (places cycle first last)),
      (all-points IsPoint (value_point top e pair series) row.first (row_length row) (λ cycle first last. is-point bounds (x cycle) (y cycle) (small top most) (places cycle first last)), paint-fits series),
    )

good-point : (top : ℕ) (e : Parts) (pair : TestedPair) (series : Series) (row : Row) (title : List ℕ) → top ≤ 40000 → IsRow e.cycles row → Good (bounds_from top) (dot_mark (series_color series) (value_point top e pair series row.first) title)
unfolding value_point
good-point top e pair series row title most is =
    let begun = is.begun in
    let order = is.in_order in
    let in_run = is.in_run in
    let seconds = unwrap_or (value_in e pair series row.first) 0 in
    let right = begins e.cycles row.first (omega arith) (omega arith) in
    let shown = shows top seconds in
    let above = shown.above in
    let below = shown.below in
    good-dot (bounds_from top) (begin_of e.cycles row.first) (second_y top seconds) (series_color series) title (small top most) (omega (arith, right)) (omega (arith, right)) (omega arith) (omega arith)

good-row : (top : ℕ) (e : Parts) (pair : TestedPair) (own other : List ℕ) (series : Series) → top ≤ 40000 → (row : Row) → IsRow e.cycles row → AllByRecursion (Good (bounds_from top)) (row_marks top e pair own other series row)
unfolding row_marks row_mark
good-row top e pair own other series most row is =
    let bounds = bounds_from top in
    let title = row_title own other series row in
    let dot = dot_mark (series_color series) (value_point top e pair series row.first) title in
    let line = row_line top e pair series row title in (
      elim (cases_Bool (row.first == row.last)) [
        | inl one ↦ subst (Good bounds) (sym (cond-true (row.first == row.last) dot line one)) (good-point top e pair series row title most is)
        | inr more ↦ subst (Good bounds) (sym (cond-false (row.first == row.last) dot line more)) (good-through top e pair series row title most is)
      ],
      tt,
    )

rows-of-run : (shows goes_on : ℕ → Bool) (cycles : ℕ) (rows : List Row) → AllByRecursion (IsLongest shows goes_on cycles) rows → AllByRecursion (IsRow cycles) rows
rows-of-run shows goes_on cycles [] all = tt
rows-of-run shows goes_on cycles (row ∷ rows) all = (record { begun = all.0.begun; in_order = all.0.in_order; in_run = all.0.in_run }, rows-of-run shows goes_on cycles rows all.1)

good-series : (top : ℕ) (e : Parts) (pair : TestedPair) (own other : List ℕ) (series : Series) → top ≤ 40000 → AllByRecursion (Good (bounds_from top)) (series_marks top e pair own other series)
unfolding series_marks
good-series top e pair own other series most =
    all-over (IsRow e.cycles) (Good (bounds_from top)) (row_marks top e pair own other series) (λ row is. good-row top e pair own other series most row is) (told_rows e pair series)
    (rows-of-run (is_told e pair series) (goes_on e pair series) e.cycles (told_rows e pair series) (are-lines e pair series).longest)

good-lines : (top : ℕ) (e : Parts) (pair : TestedPair) (own other : List ℕ) → top ≤ 40000 → AllByRecursion (Good (bounds_from top)) (lines_marks top e pair own other)
unfolding lines_marks
good-lines top e pair own other most =
    let P = Good (bounds_from top) in
    let marks = λ (series : Series). series_marks top e pair own other series in
    let good = λ (series : Series). good-series top e pair own other series most in
    all-append P (marks TrafficTau) _ (good TrafficTau)
    (all-append P (marks ResolutionTau) _ (good ResolutionTau)
    (all-append P (marks ResolutionRange) _ (good ResolutionRange)
    (all-append P (marks TrafficRange) _ (good TrafficRange) (good ResolutionAltitude))))

pub are-within : (top : ℕ) (e : Parts) (labels : LabelWords) (pair : TestedPair) → top ≤ 40000 → AreWithin top e labels pair
unfolding seconds_marks
are-within top e labels pair most =
    let bounds = bounds_from top in
    let P = Good bounds in
    let own = called e labels pair.own in
    let other = called e labels pair.other in
    let heading = heading_text own other in
    all-append P (second_ticks top) _ (all-range P (second_tick top) 0 5 (λ k first last. good-tick top k most))
    (all-append P (time_ticks e.cycles labels.start (tick_place top)) _ (good-ticks bounds e.cycles labels.start (tick_place top) (holds-ticks top most))
    (all-append P (frame_marks top plot_height heading note_text) _ (good-frame bounds top plot_height heading note_text (small top most) (omega arith) (omega arith) (omega arith) (omega arith))
    (all-append P (legend_marks top) _ (good-legend top most) (good-lines top e pair own other most))))
