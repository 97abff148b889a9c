-- The cells of two journals.
use Rattle.std.specs.Prelude.{◌≡◌, ◌≢◌, ℕ, ◌<◌, ◌≤◌, Bool, false, ◌&&◌, ◌==◌, if◌then◌else◌, List, [], ◌∷◌, length, codes, Option, Some, None, option_map, MatchOption}
use Rattle.std.specs.Fmt.{decimal}
use Rattle.acas_base.specs.Encounter.{Parts}
use Rattle.acas_base.specs.declared.advisory.Cell.{Cell}
use Rattle.acas_base.specs.declared.advisory.Cells.{Cells}
use Rattle.acas_base.specs.declared.entry.Entry.{Entry}
use Rattle.acas_base.specs.declared.entry.Entry.TheVariants.{Commit, Send, Take}
use Rattle.acas_lines.specs.Lines.{line_of}
use Rattle.acas_text.specs.Hex.{hex}
use Rattle.advisory_report.specs.Cells.{cell_text}
use Rattle.air_journal.specs.Airs.{address_of}
use Rattle.air_journal.specs.Cells.{commit_cells}
use Rattle.air_rules.specs.Journal.{cell_at}
use Rattle.comparison.specs.declared.cells.CellPlace.{CellPlace}

abbrev pub cell_of : Option Cells → ℕ → Option Cell
cell_of cells other = option_map (λ (cells : Cells). cell_at cells other) cells

-- The cell of an aircraft for another one in its commit of a cycle; none where it hasn't committed it.
abbrev pub cell_in : List Entry → ℕ → ℕ → ℕ → Option Cell
cell_in journal cycle own other = cell_of (commit_cells journal own cycle) other

abbrev pub IsSameCell : List Entry → List Entry → ℕ → ℕ → ℕ → Type 0
IsSameCell journal another cycle own other = cell_in journal cycle own other ≡ cell_in another cycle own other

-- All cells of a cycle, among so many aircraft, are the same.
abbrev pub IsSameCycle : ℕ → List Entry → List Entry → ℕ → Type 0
IsSameCycle count journal another cycle = (own other : ℕ) → own < count → other < count → IsSameCell journal another cycle own other

-- All cells of so many cycles are.
abbrev pub AreSameCells : ℕ → ℕ → List Entry → List Entry → Type 0
AreSameCells cycles count journal another = (cycle : ℕ) → 1 ≤ cycle → cycle ≤ cycles → IsSameCycle count journal another cycle

-- The cell at this place differs. All before it are the same: those of earlier cycles; in its cycle those of aircraft
-- with lower indices; and in its commit those for aircraft with lower indices.
pub record IsFirstCell (cycles count : ℕ) (journal another : List Entry) (place : CellPlace) : Type 0 where
  pub first : 1 ≤ place.cycle
  pub last : place.cycle ≤ cycles
  pub own : place.own < count
  pub other : place.other < count
  pub differs : cell_in journal place.cycle place.own place.other ≢ cell_in another place.cycle place.own place.other
  pub cycles_before : (cycle : ℕ) → 1 ≤ cycle → cycle < place.cycle → IsSameCycle count journal another cycle
  pub crafts_before : (own other : ℕ) → own < place.own → other < count → IsSameCell journal another place.cycle own other
  pub others_before : (other : ℕ) → other < place.other → IsSameCell journal another place.cycle place.own other

abbrev pub IsFirstCellFound : ℕ → ℕ → List Entry → List Entry → Option CellPlace → Type 0
IsFirstCellFound cycles count journal another found = MatchOption found (AreSameCells cycles count journal another) (IsFirstCell cycles count journal another)

-- ---- its line

-- The entry is an aircraft's commit of a cycle.
abbrev pub is_commit_in : ℕ → ℕ → Entry → Bool
is_commit_in craft of_cycle (Commit own cycle cells) = own == craft && cycle == of_cycle
is_commit_in craft of_cycle (Send own target number word) = false
is_commit_in craft of_cycle (Take own send copy good) = false

-- The position of an aircraft's commit of a cycle; none where it hasn't committed it.
abbrev pub commit_at : List Entry → ℕ → ℕ → Option ℕ
commit_at [] own cycle = None
commit_at (entry ∷ earlier) own cycle = if is_commit_in own cycle entry then Some (length earlier) else commit_at earlier own cycle

-- Nothing stands where nothing is.
abbrev pub position_text : Option ℕ → List ℕ
position_text None = []
position_text (Some position) = decimal position

abbrev pub found_text : Option Cell → List ℕ
found_text None = []
found_text (Some cell) = cell_text cell

-- The cycle, the aircraft and the one that the cell is for; then the position of the commit and the cell, for both
-- journals.
abbrev pub cell_line : Parts → List Entry → List Entry → CellPlace → List ℕ
cell_line e journal another place = line_of (
    codes "cell"
    ∷ decimal place.cycle
    ∷ hex 6 (address_of e place.own)
    ∷ hex 6 (address_of e place.other)
    ∷ position_text (commit_at journal place.own place.cycle)
    ∷ found_text (cell_in journal place.cycle place.own place.other)
    ∷ position_text (commit_at another place.own place.cycle)
    ∷ found_text (cell_in another place.cycle place.own place.other)
    ∷ [])
