-- What is kept of a journal: where the first stretches of each aircraft against each other one begin, and how many there
-- are; how each pair stands, and its place in the order; and by how much the modelled flights are above the planned ones.
use Rattle.std.specs.Prelude.{◌≡◌, ℕ, ◌<◌, ◌≤◌, ◌*◌, ◌+◌, ℤ, List, [], Option, None, IfSome, length, pos, replicate, slice_get, slice_index_or}
use Rattle.acas_base.specs.Encounter.{Parts}
use Rattle.acas_base.specs.declared.TheConstants.{CRAFTS}
use Rattle.acas_base.specs.declared.entry.Entry.{Entry}
use Rattle.air_journal.specs.Airs.{air_of}
use Rattle.air_journal.specs.Cells.{place_of}
use Rattle.air_rules.specs.Air.{Air}
use Rattle.summary.specs.Lines.{above_plan}
use Rattle.summary.specs.Pairs.{IsNear, IsTwo, place_in_order, standing_at}
use Rattle.summary.specs.Stretches.{starts_of}
use Rattle.summary.specs.declared.rows.Row.{Row}
use Rattle.summary.specs.declared.rows.Start.{Start}
use Rattle.summary.specs.declared.standing.Standing.{Standing}

-- ---- stretches

abbrev pub no_row : Row
no_row = record { count = 0; first = replicate 16 None }

-- How many there are, and the first sixteen.
pub record IsRow (starts : List Start) (row : Row) : Type 0 where
  pub count : row.count ≡ length starts
  pub size : length row.first ≡ 16
  pub each : (k : ℕ) → k < 16 → slice_index_or row.first k None ≡ slice_get starts k

-- What stands past the end of a list.
abbrev pub past_end : Row
past_end = record { count = 0; first = [] }

abbrev pub row_at : List Row → ℕ → ℕ → Row
row_at rows own other = slice_index_or rows (own * CRAFTS + other) past_end

pub record AreRows (air : Air) (journal : List Entry) (rows : List Row) : Type 0 where
  pub size : length rows ≡ 256
  pub row : (own other : ℕ) → own < CRAFTS → other < CRAFTS → IsRow (starts_of air journal own other) (row_at rows own other)

-- ---- the order of pairs

-- How the pair with a number stands.
pub record IsStanding (e : Parts) (journal : List Entry) (pair : ℕ) (standing : Option Standing) : Type 0 where
  pub is : standing ≡ standing_at e journal pair
  pub near : IfSome standing (IsNear e.cycles)
  pub two : IfSome standing (λ _. IsTwo (length e.crafts) pair)

abbrev pub AreStandings : Parts → List Entry → ℕ → List (Option Standing) → Type 0
AreStandings e journal count standings = (pair : ℕ) → pair < count → IsStanding e journal pair (slice_index_or standings pair None)

abbrev pub ArePlaces : Parts → List Entry → ℕ → List ℕ → Type 0
ArePlaces e journal count places = (pair : ℕ) → pair < count → slice_index_or places pair 0 ≡ place_in_order e journal pair

-- ---- modelled flights

abbrev pub IsNoted : Parts → List Entry → List ℤ → ℕ → ℕ → Type 0
IsNoted e journal list craft cycle = slice_index_or list (place_of craft cycle) (pos 0) ≡ above_plan e journal craft cycle

-- Those of the first so many aircraft, in all cycles, and those of the next one in the first so many cycles.
pub record AreNoted (e : Parts) (journal : List Entry) (crafts cycles : ℕ) (list : List ℤ) : Type 0 where
  pub size : length list ≡ 9600
  pub whole : (craft cycle : ℕ) → craft < crafts → 1 ≤ cycle → cycle ≤ e.cycles → IsNoted e journal list craft cycle
  pub begun : (cycle : ℕ) → 1 ≤ cycle → cycle ≤ cycles → IsNoted e journal list crafts cycle

-- ---- all of it

pub record IsPage (e : Parts) (journal : List Entry) (rows : List Row) (standings : List (Option Standing)) (places : List ℕ) (above : List ℤ) : Type 0 where
  pub rows_are : AreRows (air_of e) journal rows
  pub count : length standings ≡ 256
  pub standings_are : AreStandings e journal 256 standings
  pub places_count : length places ≡ 256
  pub places_are : ArePlaces e journal 256 places
  pub above_is : AreNoted e journal (length e.crafts) 0 above
