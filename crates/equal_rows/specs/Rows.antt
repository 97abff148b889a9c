-- The longest rows of cycles that show the same. `shows` says whether a cycle shows anything, and `goes_on` whether the
-- cycle after it shows the same as it does.
use Rattle.std.specs.Prelude.{◌≡◌, ℕ, zero, suc, ◌+◌, ◌-◌, ◌<◌, ◌≤◌, Bool, true, false, not, ◌&&◌, if◌then◌else◌, List, [], ◌∷◌, Some, slice_get}
use Rattle.std.specs.List.{AllByRecursion, flat_map, range_with_len}
use Rattle.equal_rows.specs.declared.row.Row.{Row}

-- A row begins with a cycle that shows something, and not what the cycle before it shows.
abbrev pub begins : (ℕ → Bool) → (ℕ → Bool) → ℕ → Bool
begins shows goes_on cycle = shows cycle && not (goes_on (cycle - 1))

-- The last cycle up to which a test holds from each cycle to the next one, of so many cycles after this one.
abbrev pub lasts : (ℕ → Bool) → ℕ → ℕ → ℕ
lasts goes_on cycle zero = cycle
lasts goes_on cycle (suc n) = if goes_on cycle then lasts goes_on (cycle + 1) n else cycle

-- The last cycle of the row that begins with this one.
abbrev pub last_from : (ℕ → Bool) → ℕ → ℕ → ℕ
last_from goes_on cycles first = lasts goes_on first (cycles - first)

abbrev pub row_from : (ℕ → Bool) → ℕ → ℕ → Row
row_from goes_on cycles first = record { first = first; last = last_from goes_on cycles first }

-- The row that begins with a cycle, if one does.
abbrev pub rows_at : (ℕ → Bool) → (ℕ → Bool) → ℕ → ℕ → List Row
rows_at shows goes_on cycles cycle = if begins shows goes_on cycle then row_from goes_on cycles cycle ∷ [] else []

-- The rows of a run of cycles, in order.
unfoldable pub rows_of : (ℕ → Bool) → (ℕ → Bool) → ℕ → List Row
rows_of shows goes_on cycles = flat_map (rows_at shows goes_on cycles) (range_with_len 1 cycles)

-- ---- what the rows are, without the recursion that finds them

-- Before the run nothing is shown, and where a cycle goes on, both show something or none does.
pub record IsRun (shows goes_on : ℕ → Bool) : Type 0 where
  pub quiet : shows 0 ≡ false
  pub alike : (cycle : ℕ) → goes_on cycle ≡ true → shows cycle ≡ shows (cycle + 1)

-- A row shows something, and the same from its first cycle to its last one. It can't be made longer.
pub record IsLongest (shows goes_on : ℕ → Bool) (cycles : ℕ) (row : Row) : Type 0 where
  pub begun : 1 ≤ row.first
  pub in_order : row.first ≤ row.last
  pub in_run : row.last ≤ cycles
  pub shown : (cycle : ℕ) → row.first ≤ cycle → cycle ≤ row.last → shows cycle ≡ true
  pub same : (cycle : ℕ) → row.first ≤ cycle → cycle < row.last → goes_on cycle ≡ true
  pub starts : goes_on (row.first - 1) ≡ false
  pub ends : row.last < cycles → goes_on row.last ≡ false

-- Each row begins after the one before it has ended; the first one begins after this cycle.
abbrev pub AreInOrder : ℕ → List Row → Type 0
AreInOrder after [] = Unit {0}
AreInOrder after (row ∷ rest) = (after < row.first) × AreInOrder row.last rest

-- A cycle is in one of the rows.
pub record IsCovered (rows : List Row) (cycle : ℕ) : Type 0 where
  pub place : ℕ
  pub row : Row
  pub there : slice_get rows place ≡ Some row
  pub first : row.first ≤ cycle
  pub last : cycle ≤ row.last

-- All rows are longest ones, in order, and no cycle that shows something is left out.
pub record AreRows (shows goes_on : ℕ → Bool) (cycles after : ℕ) (rows : List Row) : Type 0 where
  pub longest : AllByRecursion (IsLongest shows goes_on cycles) rows
  pub in_order : AreInOrder after rows
  pub all : (cycle : ℕ) → 1 ≤ cycle → cycle ≤ cycles → shows cycle ≡ true → IsCovered rows cycle
