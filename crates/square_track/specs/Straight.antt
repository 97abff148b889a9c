-- The square track of two aircraft that fly straight.
use Rattle.std.specs.Prelude.{◌≡◌, ℕ, ◌+◌, ◌<◌, min, ℤ, pos, ◌+ℤ◌, ◌*ℤ◌, Some, None}
use Rattle.square_track.specs.SquareTrack.{IsRate, IsSecond, IsSquare, most_calm, most_missed, step}
use Rattle.square_track.specs.declared.measuring.MeasuredSquare.{MeasuredSquare}
use Rattle.square_track.specs.declared.state.SquareState.{SquareState}
use Rattle.square_track.specs.declared.state.SquareState.TheVariants.{Empty, Run}

-- Where another aircraft is from own one by level, in ft, and how much that changes each second.
pub record Passing : Type 0 where
  pub x : ℤ
  pub y : ℤ
  pub x_rate : ℤ
  pub y_rate : ℤ

-- A second later, straight on.
abbrev pub later : Passing → Passing
later p = record p { x = p.x +ℤ p.x_rate; y = p.y +ℤ p.y_rate }

-- The square of the horizontal range, its rate, and its second rate.
abbrev pub square_in : Passing → ℤ
square_in p = p.x *ℤ p.x +ℤ p.y *ℤ p.y

abbrev pub rate_in : Passing → ℤ
rate_in p = pos 2 *ℤ (p.x *ℤ p.x_rate +ℤ p.y *ℤ p.y_rate)

abbrev pub second_in : Passing → ℤ
second_in p = pos 2 *ℤ (p.x_rate *ℤ p.x_rate +ℤ p.y_rate *ℤ p.y_rate)

-- All three are within the limits of the track.
pub record IsTracked (p : Passing) : Type 0 where
  pub square : IsSquare (square_in p)
  pub rate : IsRate (rate_in p)
  pub second : IsSecond (second_in p)

-- A running track without an error, and its counts of misses and of measurements without a surprise.
abbrev pub exact : Passing → ℕ → ℕ → SquareState
exact p missed calm = Run (square_in p) (rate_in p) (second_in p) missed calm

abbrev pub Measures : MeasuredSquare → Passing → Type 0
Measures m p = m.square ≡ square_in p

-- The first three measurements in a row.
abbrev pub BeginsExactly : Type 0
BeginsExactly = (p : Passing) (one two three : MeasuredSquare) → IsTracked p → IsTracked (later p) → IsTracked (later (later p)) →
    Measures one p → Measures two (later p) → Measures three (later (later p)) →
    step (step (step Empty (Some one)) (Some two)) (Some three) ≡ exact (later (later p)) 0 0

-- One more measurement.
abbrev pub GoesOnExactly : Type 0
GoesOnExactly = (p : Passing) (missed calm : ℕ) (m : MeasuredSquare) → IsTracked (later p) → Measures m (later p) →
    step (exact p missed calm) (Some m) ≡ exact (later p) 0 (min most_calm (calm + 1))

-- A miss, where there weren't five before it.
abbrev pub MissesExactly : Type 0
MissesExactly = (p : Passing) (missed calm : ℕ) → IsTracked (later p) → missed < most_missed →
    step (exact p missed calm) None ≡ exact (later p) (missed + 1) calm
