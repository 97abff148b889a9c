-- How the marks of the labels are drawn: a line and a letter for each, and a list of them.
use Rattle.std.specs.Prelude.{ℕ, zero, suc, ◌+◌, ◌-◌, ◌*◌, Bool, false, not, ◌||◌, if◌then◌else◌, nat_le, nat_lt, List, [], ◌∷◌, ◌++◌, codes, length, Option, Some, None}
use Rattle.std.specs.Fmt.{decimal}
use Rattle.std.specs.List.{flat_map}
use Rattle.labels.specs.Labels.{LabelWords}
use Rattle.page_marks.specs.Paints.{dashed_paint, halo, letters, note}
use Rattle.page_marks.specs.Places.{point_at}
use Rattle.picture.specs.Layout.{course_top, plot_bottom}
use Rattle.picture.specs.Marked.{all_marked, count_among, mark_text, marked_at}
use Rattle.picture.specs.declared.marked.Marked.{Marked}
use Rattle.plot_axes.specs.Time.{begin_of, label_of}
use Rattle.svg_text.specs.Marks.{Mark, figure, worded}
use Rattle.svg_text.specs.declared.shapes.Anchor.TheVariants as anchors
use Rattle.svg_text.specs.declared.shapes.Dash.TheVariants as dashes
use Rattle.svg_text.specs.declared.shapes.Shape.TheVariants as shapes
use Rattle.svg_text.specs.declared.shapes.Weight.TheVariants as weights

-- ---- what a mark says

-- The first word of the list has the letter A, the next one B, and so on.
unfoldable pub letter_text : ℕ → List ℕ
letter_text place = (65 + place) ∷ []

-- Its letter, its cycle and its text.
unfoldable pub mark_title : LabelWords → Marked → List ℕ
mark_title it marked = codes "mark " ++ letter_text marked.place ++ codes ", cycle " ++ decimal marked.cycle ++ codes ", " ++ mark_text it marked.place

-- ---- its line and its letter

-- Letters of one cycle stand side by side, in the order of the list: to the right of where the cycle begins in the left
-- half of the axis, and to the left of it in the other half.
unfoldable pub letter_x : ℕ → ℕ → ℕ
letter_x x before = if nat_lt x 9900 then x + 180 * before else x - 180 * before

-- How many marks of its cycle stand before it in the list.
abbrev pub marked_before : LabelWords → Marked → ℕ
marked_before it marked = count_among it marked.cycle marked.cycle marked.place

-- Where its letter stands.
abbrev pub letter_of : LabelWords → ℕ → Marked → ℕ
letter_of it cycles marked = letter_x (begin_of cycles marked.cycle) (marked_before it marked)

-- Two letters stand beside each other.
abbrev pub are_beside : ℕ → ℕ → Bool
are_beside one other = nat_le (one + 180) other || nat_le (other + 180) one

-- A letter at a place would lie over that of another mark.
abbrev pub is_over : LabelWords → ℕ → ℕ → Option Marked → Bool
is_over it cycles at None = false
is_over it cycles at (Some other) = not (are_beside (letter_of it cycles other) at)

-- Over that of one of the first marks of the list.
abbrev pub is_over_some : LabelWords → ℕ → ℕ → ℕ → Bool
is_over_some it cycles at zero = false
is_over_some it cycles at (suc n) = is_over_some it cycles at n || is_over it cycles at (marked_at it cycles n)

-- A letter is left out where it would lie over that of an earlier mark.
abbrev pub has_letter : LabelWords → ℕ → Marked → Bool
has_letter it cycles marked = not (is_over_some it cycles (letter_of it cycles marked) marked.place)

-- A line through the altitudes and the lanes, and over it the letter.
abbrev pub line_at : ℕ → ℕ → List ℕ → List Mark
line_at lanes x title = figure (shapes.Segment (point_at x course_top) (point_at x (plot_bottom lanes))) (dashed_paint note 30 dashes.Short) title ∷ []

abbrev pub letter_at : ℕ → List ℕ → List ℕ → List Mark
letter_at at letter title =
    worded (halo (point_at at 1440) 240 anchors.Middle weights.Regular) letter title ∷ worded (letters (point_at at 1440) 240 anchors.Middle weights.Regular) letter title ∷ []

abbrev pub letter_where : Bool → ℕ → List ℕ → List ℕ → List Mark
letter_where there at letter title = if there then letter_at at letter title else []

-- The line stands where the cycle of the mark begins.
unfoldable pub line_of : LabelWords → ℕ → ℕ → Marked → List Mark
line_of it cycles lanes marked =
    line_at lanes (begin_of cycles marked.cycle) (mark_title it marked)
    ++ letter_where (has_letter it cycles marked) (letter_of it cycles marked) (letter_text marked.place) (mark_title it marked)

abbrev pub lines_marks : LabelWords → ℕ → ℕ → List Mark
lines_marks it cycles lanes = flat_map (line_of it cycles lanes) (all_marked it cycles)

-- ---- the list of marks

-- A letter, and beside it the cycle, as the axis of time calls it, and the text.
abbrev pub row_at : ℕ → List ℕ → List ℕ → List ℕ → List Mark
row_at y letter cycle text =
    worded (letters (point_at 2000 y) 260 anchors.Start weights.Bold) letter []
    ∷ worded (letters (point_at 2400 y) 260 anchors.Start weights.Regular) cycle []
    ∷ worded (letters (point_at 3900 y) 260 anchors.Start weights.Regular) text [] ∷ []

-- How many marks that are drawn stand before it in the list.
abbrev pub row_number : LabelWords → ℕ → Marked → ℕ
row_number it cycles marked = count_among it 1 cycles marked.place

-- Each mark that is drawn has a row, in order. The list begins at `top`.
unfoldable pub row_of : ℕ → LabelWords → ℕ → Marked → List Mark
row_of top it cycles marked = row_at ((top + 100) + 400 * row_number it cycles marked) (letter_text marked.place) (label_of it.start marked.cycle) (mark_text it marked.place)

abbrev pub list_marks : ℕ → LabelWords → ℕ → List Mark
list_marks top it cycles = flat_map (row_of top it cycles) (all_marked it cycles)

-- How much of the page the list takes: none where no mark is drawn.
abbrev pub list_height : LabelWords → ℕ → ℕ
list_height it cycles = 400 * count_among it 1 cycles (length it.marks)
