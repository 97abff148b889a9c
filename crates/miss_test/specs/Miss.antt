-- What a square track says of the horizontal miss distance (this project's profile 2). Squares are in ft2, rates in
-- ft2/s, second rates in ft2/s2, the distance of the filter in ft.
use Rattle.std.specs.Prelude.{◌≡◌, ℕ, ◌*◌, ◌==◌, ◌&&◌, ◌||◌, Bool, true, false, nat_le, ℤ, pos, ◌+ℤ◌, ◌-ℤ◌, ◌*ℤ◌, ◌≤ℤ◌, int_le, int_lt}
use Rattle.square_track.specs.SquareTrack.{most_calm}
use Rattle.square_track.specs.declared.state.SquareState.{SquareState}
use Rattle.square_track.specs.declared.state.SquareState.TheVariants.{Empty, One, Two, Run}

-- The pair opens: the horizontal range times its rate, which is half of the square's rate, is above a product. Where the
-- track doesn't run, nothing is known of the square, and the pair doesn't open.
unfoldable pub opens : ℤ → SquareState → Bool
opens product Empty = false
opens product (One q) = false
opens product (Two q d) = false
opens product (Run q v a n c) = int_lt (pos 2 *ℤ product) v

-- The square doesn't shrink: the closest approach is now or past.
unfoldable pub grows : SquareState → Bool
grows Empty = false
grows (One q) = false
grows (Two q d) = false
grows (Run q v a n c) = int_le (pos 0) v

-- The square never gets below that of the distance: it is at least that now, and it doesn't shrink, or it turns in time.
-- The least square of straight flights is q - v * v / (2 * a).
abbrev pub stays_beyond : ℕ → ℤ → ℤ → ℤ → Bool
stays_beyond distance q v a =
    int_le (pos (distance * distance)) q
    && (int_le (pos 0) v || (int_lt (pos 0) a && int_le (v *ℤ v) ((pos 2 *ℤ a) *ℤ (q -ℤ pos (distance * distance)))))

-- The pair passes far away: the track runs, it has missed at most two measurements in a row, and there was no surprise
-- for so long that it can be trusted.
unfoldable pub is_far : ℕ → SquareState → Bool
is_far distance Empty = false
is_far distance (One q) = false
is_far distance (Two q d) = false
is_far distance (Run q v a n c) = nat_le n 2 && (c == most_calm && stays_beyond distance q v a)

-- Twice the square after some seconds, where the second rate stays.
abbrev pub twice_square : ℤ → ℤ → ℤ → ℕ → ℤ
twice_square q v a seconds = pos 2 *ℤ q +ℤ (pos 2 *ℤ (v *ℤ pos seconds) +ℤ a *ℤ pos (seconds * seconds))

-- The filter is right about straight flights, whose second rate isn't below zero: a pair that stays beyond the distance
-- is never within it, however many seconds go by.
abbrev pub NeverComesWithin : Type 0
NeverComesWithin = (distance seconds : ℕ) (q v a : ℤ) → pos 0 ≤ℤ a → stays_beyond distance q v a ≡ true → pos (2 * (distance * distance)) ≤ℤ twice_square q v a seconds
