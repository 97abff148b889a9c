-- The track of the square of the horizontal range to one other aircraft (this project's profile 2). Squares are in ft2,
-- rates in ft2/s, second rates in ft2/s2. A step is one second.
use Rattle.std.specs.Prelude.{ℕ, ◌+◌, ◌-◌, ◌*◌, ◌≤◌, ◌==◌, if◌then◌else◌, min, nat_le, ℤ, pos, neg_ℤ, ◌+ℤ◌, ◌-ℤ◌, ◌*ℤ◌, unsigned_abs, List, [], ◌∷◌, Option, Some, None}
use Rattle.std.specs.Int.{int_div_euclid}
use Rattle.acas_num.specs.Clamp.{clamped, LiesBetween}
use Rattle.square_track.specs.declared.measuring.MeasuredSquare.{MeasuredSquare}
use Rattle.square_track.specs.declared.state.SquareState.{SquareState}
use Rattle.square_track.specs.declared.state.SquareState.TheVariants.{Empty, One, Two, Run}

-- ---- what is measured, in ft

-- The square of the horizontal range: that of the slant range less that of the difference in altitude, and not below 0.
abbrev pub measured_square : ℕ → ℤ → ℤ → MeasuredSquare
measured_square range reported own = record {
  square = pos (range * range - unsigned_abs (reported -ℤ own) * unsigned_abs (reported -ℤ own));
  range = range;
}

-- ---- the limits

-- The square of 182,280 ft.
abbrev pub highest : ℤ
highest = pos 33225998400

abbrev pub fastest : ℤ
fastest = pos 1500000000

abbrev pub sharpest : ℤ
sharpest = pos 64000000

abbrev pub IsSquare : ℤ → Type 0
IsSquare a = LiesBetween (pos 0) highest a

abbrev pub IsRate : ℤ → Type 0
IsRate a = unsigned_abs a ≤ 1500000000

abbrev pub IsSecond : ℤ → Type 0
IsSecond a = unsigned_abs a ≤ 64000000

pub record IsMeasured (m : MeasuredSquare) : Type 0 where
  pub square : IsSquare m.square
  pub range : m.range ≤ 182280

-- The most measurements in a row that a running track can miss, and the most that are counted as being without a
-- surprise.
abbrev pub most_missed : ℕ
most_missed = 5

abbrev pub most_calm : ℕ
most_calm = 15

abbrev pub IsWithinLimits : SquareState → Type 0
IsWithinLimits Empty = Unit {0}
IsWithinLimits (One q) = IsSquare q
IsWithinLimits (Two q d) = IsSquare q × IsRate d
IsWithinLimits (Run q v a n c) = IsSquare q × IsRate v × IsSecond a × (n ≤ most_missed) × (c ≤ most_calm)

-- A number that is kept within the limits.
abbrev pub kept_square : ℤ → ℤ
kept_square a = clamped (pos 0) highest a

abbrev pub kept_rate : ℤ → ℤ
kept_rate a = clamped (neg_ℤ fastest) fastest a

abbrev pub kept_second : ℤ → ℤ
kept_second a = clamped (neg_ℤ sharpest) sharpest a

-- ---- a second

-- Half of a number, rounded down.
abbrev pub half : ℤ → ℤ
half a = int_div_euclid a (pos 2)

-- The part of a surprise that a gain in 1/1024 takes over, rounded down.
abbrev pub share : ℕ → ℤ → ℤ
share gain surprise = int_div_euclid (pos gain *ℤ surprise) (pos 1024)

-- The square a second later.
abbrev pub predicted : ℤ → ℤ → ℤ → ℤ
predicted square rate second = kept_square (square +ℤ (rate +ℤ half second))

-- How many measurements in a row were without a surprise. A difference is one where it is above what 16 ft in the range
-- make of a square.
abbrev pub calm_after : ℕ → ℤ → ℕ → ℕ
calm_after range surprise calm = if nat_le (unsigned_abs surprise) (32 * range) then min most_calm (calm + 1) else 0

-- A track begins to run, where the square grew by `before` and then by `change`.
abbrev pub running : ℤ → ℤ → ℤ → SquareState
running square change before =
    let second = kept_second (change -ℤ before) in
    Run square (kept_rate (change +ℤ half second)) second 0 0

-- A running state from the predicted square, the rate and the second rate before, and how far off the square was.
abbrev pub corrected : ℤ → ℤ → ℤ → ℤ → ℕ → SquareState
corrected square rate second surprise calm =
    Run (kept_square (square +ℤ share 673 surprise)) (kept_rate ((rate +ℤ second) +ℤ share 235 surprise)) (kept_second (second +ℤ share 28 surprise)) 0 calm

-- What a measurement makes of a state.
abbrev pub measured : SquareState → MeasuredSquare → SquareState
measured Empty m = One m.square
measured (One q) m = Two m.square (kept_rate (m.square -ℤ q))
measured (Two q d) m = running m.square (m.square -ℤ q) d
measured (Run q v a n c) m =
    let square = predicted q v a in
    let surprise = m.square -ℤ square in
    corrected square v a surprise (calm_after m.range surprise c)

-- What a miss makes of a state.
abbrev pub missed : SquareState → SquareState
missed Empty = Empty
missed (One q) = Empty
missed (Two q d) = Empty
missed (Run q v a n c) = if n == most_missed then Empty else Run (predicted q v a) (kept_rate (v +ℤ a)) a (n + 1) c

-- One second: a measurement, or a miss.
abbrev pub step : SquareState → Option MeasuredSquare → SquareState
step state None = missed state
step state (Some m) = measured state m

-- The state after all measurements and misses of a list, the newest first.
abbrev pub square_track : List (Option MeasuredSquare) → SquareState
square_track [] = Empty
square_track (m ∷ earlier) = step (square_track earlier) m
