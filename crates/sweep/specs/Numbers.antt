-- The numbers of jobs.
use Rattle.std.specs.Prelude.{ℕ, ◌+◌, ◌%◌, ◌^◌, List, map}
use Rattle.std.specs.List.{range_with_len}

-- The number at a place, from 0. After the greatest number of 32 bits comes 0.
abbrev pub number_at : ℕ → ℕ → ℕ
number_at first at = (first + at) % 2 ^ 32

-- `count` numbers, from the first one on.
abbrev pub numbers : ℕ → ℕ → List ℕ
numbers first count = map (number_at first) (range_with_len 0 count)
