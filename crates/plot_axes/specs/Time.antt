-- The axis of time: a run of cycles, a second each.
use Rattle.std.specs.Prelude.{◌≡◌, ℕ, ◌+◌, ◌-◌, ◌/◌, ◌%◌, ◌<◌, ◌≤◌, Bool, ◌==◌, if◌then◌else◌, List, [], ◌∷◌, Option, None, Some, is_some}
use Rattle.std.specs.Fmt.{decimal}
use Rattle.std.specs.Option.{option_map_or}
use Rattle.plot_axes.specs.Clock.{clock_text}
use Rattle.plot_axes.specs.Scale.{share}
use Rattle.plot_axes.specs.Steps.{step_for}

-- Where the axis begins, and how long it is, in units of the drawing.
abbrev pub axis_begin : ℕ
axis_begin = 2000

abbrev pub axis_length : ℕ
axis_length = 15800

-- Where a cycle begins. The cycle after the last one begins where the axis ends.
abbrev pub begin_of : ℕ → ℕ → ℕ
begin_of cycles cycle = axis_begin + share axis_length cycles (cycle - 1)

-- The middle of a cycle, which stands for what happens between it and the next one.
abbrev pub middle_of : ℕ → ℕ → ℕ
middle_of cycles cycle = (begin_of cycles cycle + begin_of cycles (cycle + 1)) / 2

abbrev pub time_steps : List ℕ
time_steps = 1 ∷ 2 ∷ 5 ∷ 10 ∷ 20 ∷ 50 ∷ 100 ∷ []

-- With a clock, `start` is the second of the day in which cycle 1 is. A clock's label takes more room, so fewer fit.
abbrev pub most_ticks : Option ℕ → ℕ
most_ticks start = if is_some start then 11 else 14

abbrev pub tick_step : ℕ → Option ℕ → ℕ
tick_step cycles start = step_for cycles (most_ticks start) 0 time_steps

-- What a cycle is called: its number, or its second of the day. A clock runs past midnight.
abbrev pub name_of : Option ℕ → ℕ → ℕ
name_of start cycle = option_map_or (λ second. (second + cycle - 1) % 86400) start cycle

-- What stands under a tick: the name of its cycle, as a number or as hh:mm:ss.
abbrev pub label_of : Option ℕ → ℕ → List ℕ
label_of None cycle = decimal cycle
label_of (Some second) cycle = clock_text (name_of (Some second) cycle)

-- A tick stands where the name is a multiple of the step.
abbrev pub is_tick : ℕ → Option ℕ → ℕ → Bool
is_tick cycles start cycle = name_of start cycle % tick_step cycles start == 0

-- No cycle is lost: the axis begins with cycle 1 and ends with the end of the last one, and each cycle has a width of
-- its own, with its middle in it.
pub record HoldsRun (cycles : ℕ) : Type 0 where
  pub first : begin_of cycles 1 ≡ axis_begin
  pub last : begin_of cycles (cycles + 1) ≡ axis_begin + axis_length
  pub wide : (cycle : ℕ) → 1 ≤ cycle → cycle ≤ cycles → begin_of cycles cycle + 26 ≤ begin_of cycles (cycle + 1)
  pub middle : (cycle : ℕ) → 1 ≤ cycle → cycle ≤ cycles → (begin_of cycles cycle < middle_of cycles cycle) × (middle_of cycles cycle < begin_of cycles (cycle + 1))
