-- How long a legal journal can get.
use Rattle.std.specs.Prelude.{ℕ, zero, suc, ◌+◌, ◌*◌, ◌-◌, ◌≤◌, Bool, if◌then◌else◌, List, length}
use Rattle.acas_base.specs.declared.entry.Entry.{Entry}
use Rattle.air_rules.specs.Air.{Air, is_ra, is_active}

-- How many of the first numbers pass a test.
abbrev pub count_below : (ℕ → Bool) → ℕ → ℕ
count_below test zero = 0
count_below test (suc n) = if test n then count_below test n + 1 else count_below test n

abbrev pub active_count : Air → ℕ
active_count air = count_below (is_active air) air.count

abbrev pub ra_count : Air → ℕ
ra_count air = count_below (is_ra air) air.count

-- The most entries of a journal. Each active aircraft has a commit in each cycle. Each ordered pair of aircraft of kind
-- RA has a send and three takes in each cycle.
abbrev pub most_entries : Air → ℕ
most_entries air = air.cycles * active_count air + 4 * (air.cycles * (ra_count air * (ra_count air - 1)))

abbrev pub IsBounded : Air → List Entry → Type 0
IsBounded air journal = length journal ≤ most_entries air
