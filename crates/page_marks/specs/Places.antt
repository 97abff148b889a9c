-- Places on the page, in units of the drawing, to the right and downward.
use Rattle.std.specs.Prelude.{ℕ, pos}
use Rattle.svg_text.specs.declared.shapes.Area.{Area}
use Rattle.svg_text.specs.declared.shapes.Point.{Point}

abbrev pub point_at : ℕ → ℕ → Point
point_at x y = record { x = pos x; y = pos y }

abbrev pub area_at : ℕ → ℕ → ℕ → ℕ → Area
area_at x y width height = record { corner = point_at x y; width = width; height = height }
