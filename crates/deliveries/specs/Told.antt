-- The text of rows, row by row.
use Rattle.std.specs.Prelude.{ℕ, ◌==◌, nat_lt, if◌then◌else◌, List, []}
use Rattle.deliveries.specs.Text.{later_row, row_text, shown_rows}
use Rattle.deliveries.specs.declared.rows.Row.{Row}

-- What a row adds after so many rows.
abbrev pub next_text : ℕ → Row → List ℕ
next_text count row = if nat_lt count shown_rows then (if count == 0 then row_text row else later_row row) else []
