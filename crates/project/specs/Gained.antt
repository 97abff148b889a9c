-- What the steps towards a goal add to a sum of rates, whichever way the goal lies.
use Rattle.std.specs.Prelude.{ℕ, zero, suc, ◌+◌, ◌*◌, if◌then◌else◌, nat_le, ℤ, pos, neg_ℤ, int_le}

-- How far k steps lead towards a goal at a distance.
abbrev pub gain : ℕ → ℕ → ℕ → ℕ
gain distance step k = if nat_le (k * step) distance then k * step else distance

-- The sum of what 1 to m steps gain.
abbrev pub gains : ℕ → ℕ → ℕ → ℕ
gains distance step zero = 0
gains distance step (suc m) = gains distance step m + gain distance step (suc m)

-- An amount towards the goal: up where the goal isn't below v, else down.
abbrev pub toward : ℤ → ℤ → ℕ → ℤ
toward v goal amount = if int_le v goal then pos amount else neg_ℤ (pos amount)
