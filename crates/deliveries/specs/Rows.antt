-- Rows of whole numbers. A list of flags marks some of the numbers from 1 on: its first flag is that of 1.
use Rattle.std.specs.Prelude.{ℕ, zero, suc, ◌+◌, ◌-◌, Bool, false, ◌&&◌, not, nat_lt, if◌then◌else◌, List, length, Option, Some, None, option_to_list, slice_index_or}
use Rattle.std.specs.List.{flat_map, range_with_len}
use Rattle.deliveries.specs.declared.rows.Row.{Row}

abbrev pub is_marked : List Bool → ℕ → Bool
is_marked flags number = slice_index_or flags (number - 1) false

-- A row begins at a number that is marked after one that isn't.
abbrev pub begins_row : List Bool → ℕ → Bool
begins_row flags number = is_marked flags number && not (nat_lt 1 number && is_marked flags (number - 1))

-- The last number of a row: this one, where the next one isn't marked; else one of the next `most` ones.
abbrev pub row_end : List Bool → ℕ → ℕ → ℕ
row_end flags zero number = number
row_end flags (suc most) number = if is_marked flags (number + 1) then row_end flags most (number + 1) else number

-- The row that begins at a number, where one does.
abbrev pub row_at : List Bool → ℕ → Option Row
row_at flags number = if begins_row flags number then Some (record { first = number; last = row_end flags (length flags) number }) else None

abbrev pub row_there : List Bool → ℕ → List Row
row_there flags number = option_to_list (row_at flags number)

-- All rows, in order.
abbrev pub rows : List Bool → List Row
rows flags = flat_map (row_there flags) (range_with_len 1 (length flags))
