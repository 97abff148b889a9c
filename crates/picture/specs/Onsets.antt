-- Marks where traffic or advice begins, and where its sense changes.
use Rattle.std.specs.Prelude.{ℕ, ◌+◌, ◌-◌, Bool, true, false, not, ◌&&◌, ◌||◌, if◌then◌else◌, List, [], ◌∷◌}
use Rattle.advisory_report.specs.Phrases.{has_advice, is_clear}
use Rattle.advisory_report.specs.declared.composite.Composite.{Composite}
use Rattle.picture.specs.Bars.{advised}
use Rattle.page_marks.specs.Places.{point_at}
use Rattle.page_marks.specs.Paints.{amber, blue, filled, ink, purple, vermilion}
use Rattle.page_marks.specs.declared.paints.Advised.{Advised}
use Rattle.page_marks.specs.declared.paints.Advised.TheVariants as kinds
use Rattle.svg_text.specs.Marks.{Mark, figure, traced}
use Rattle.svg_text.specs.declared.shapes.Outline.TheVariants as outlines
use Rattle.svg_text.specs.declared.shapes.Paint.{Paint}
use Rattle.svg_text.specs.declared.shapes.Point.{Point}
use Rattle.svg_text.specs.declared.shapes.Shape.TheVariants as shapes

abbrev pub is_same_kind : Advised → Advised → Bool
is_same_kind kinds.Traffic kinds.Traffic = true
is_same_kind kinds.Traffic kinds.Up = false
is_same_kind kinds.Traffic kinds.Down = false
is_same_kind kinds.Traffic kinds.Both = false
is_same_kind kinds.Up kinds.Traffic = false
is_same_kind kinds.Up kinds.Up = true
is_same_kind kinds.Up kinds.Down = false
is_same_kind kinds.Up kinds.Both = false
is_same_kind kinds.Down kinds.Traffic = false
is_same_kind kinds.Down kinds.Up = false
is_same_kind kinds.Down kinds.Down = true
is_same_kind kinds.Down kinds.Both = false
is_same_kind kinds.Both kinds.Traffic = false
is_same_kind kinds.Both kinds.Up = false
is_same_kind kinds.Both kinds.Down = false
is_same_kind kinds.Both kinds.Both = true

-- Something begins: nothing was shown before, or there is advice now and its sense is a new one.
abbrev pub is_onset : Composite → Composite → Bool
is_onset before now = is_clear before || (has_advice now && not (is_same_kind (advised before) (advised now)))

-- A triangle that points upward, one that points downward, and a diamond.
unfoldable pub upward : ℕ → ℕ → List Point
upward x y = point_at (x - 110) (y - 20) ∷ point_at (x + 110) (y - 20) ∷ point_at x (y - 260) ∷ []

unfoldable pub downward : ℕ → ℕ → List Point
downward x y = point_at (x - 110) (y + 20) ∷ point_at (x + 110) (y + 20) ∷ point_at x (y + 260) ∷ []

unfoldable pub diamond : ℕ → ℕ → List Point
diamond x y = point_at (x - 110) y ∷ point_at x (y - 150) ∷ point_at (x + 110) y ∷ point_at x (y + 150) ∷ []

-- The corners of a mark of advice.
abbrev pub corners : Advised → ℕ → ℕ → List Point
corners kinds.Traffic x y = []
corners kinds.Up x y = upward x y
corners kinds.Down x y = downward x y
corners kinds.Both x y = diamond x y

abbrev pub onset_paint : Advised → Paint
onset_paint kinds.Traffic = filled amber ink 20
onset_paint kinds.Up = filled blue ink 20
onset_paint kinds.Down = filled vermilion ink 20
onset_paint kinds.Both = filled purple ink 20

abbrev pub circle_mark : ℕ → ℕ → List ℕ → List Mark
circle_mark x y title = figure (shapes.Circle (point_at x y) 90) (onset_paint kinds.Traffic) title ∷ []

abbrev pub corner_mark : ℕ → ℕ → List ℕ → Advised → List Mark
corner_mark x y title advised = traced outlines.Closed (corners advised x y) (onset_paint advised) title ∷ []

-- Traffic is a circle, advice up or down a triangle, and advice of both senses a diamond.
abbrev pub onset_mark : ℕ → ℕ → List ℕ → Advised → List Mark
onset_mark x y title kinds.Traffic = circle_mark x y title
onset_mark x y title kinds.Up = corner_mark x y title kinds.Up
onset_mark x y title kinds.Down = corner_mark x y title kinds.Down
onset_mark x y title kinds.Both = corner_mark x y title kinds.Both

unfoldable pub onset_marks : ℕ → ℕ → List ℕ → Composite → Composite → List Mark
onset_marks x y title before now = if is_onset before now then onset_mark x y title (advised now) else []
