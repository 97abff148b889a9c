-- Times of day, as fields tell them.
use Rattle.std.specs.Prelude.{ℕ, ◌+◌, ◌-◌, ◌*◌, ◌&&◌, if◌then◌else◌, nat_lt, List, get_or, Option, Some, None}
use Rattle.std.specs.Str.{bytes_eq}
use Rattle.plot_axes.specs.Clock.{clock_text}

-- The number that two digits tell, from a place on.
abbrev pub pair_at : List ℕ → ℕ → ℕ
pair_at bytes place = 10 * (get_or bytes place 0 - 48) + (get_or bytes (place + 1) 0 - 48)

abbrev pub told : List ℕ → ℕ
told bytes = 3600 * pair_at bytes 0 + 60 * pair_at bytes 3 + pair_at bytes 6

-- The second of the day that a text of the form HH:MM:SS tells, up to 23:59:59.
unfoldable pub clock_in : List ℕ → Option ℕ
clock_in bytes = if nat_lt (told bytes) 86400 && bytes_eq (clock_text (told bytes)) bytes then Some (told bytes) else None
