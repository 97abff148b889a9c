-- Draws: numbers that follow from a state. Each draw moves the state on.
use Rattle.std.specs.Prelude.{ℕ, ◌+◌, ◌*◌, ◌/◌, ◌%◌, ◌^◌}

-- The first state, by the number of an encounter.
unfoldable pub seed : ℕ → ℕ
seed number = number % 2 ^ 31

-- The state that follows a state.
unfoldable pub next_state : ℕ → ℕ
next_state s = (1103515245 * s + 12345) % 2 ^ 31

-- The number below n that a state gives.
unfoldable pub number_below : ℕ → ℕ → ℕ
number_below n s = (s / 65536) % n

-- A number that is drawn, and the state after it.
pub record Draw : Type 0 where
  pub number : ℕ
  pub state : ℕ

-- A draw of a number below n: it moves the state on, and then gives the number.
abbrev pub draw : ℕ → ℕ → Draw
draw n s = record { number = number_below n (next_state s); state = next_state s }
