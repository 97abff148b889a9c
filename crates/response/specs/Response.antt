-- The text of the modelled response: for each pair of aircraft of which one has a resolution advisory against the
-- other, how near they come as planned and as flown (this project's profile).
use Rattle.std.specs.Prelude.{ℕ, ◌+◌, ◌-◌, ◌/◌, Bool, false, ◌||◌, if◌then◌else◌, ◌-ℤ◌, unsigned_abs, List, [], ◌∷◌, codes, length, Option, Some, None}
use Rattle.std.specs.Fmt.{decimal}
use Rattle.std.specs.List.{flat_map, list_any, range_with_len}
use Rattle.acas_base.specs.Encounter.{Parts}
use Rattle.acas_base.specs.Messages.{has_advisory}
use Rattle.acas_base.specs.declared.advisory.Cells.{Cells}
use Rattle.acas_base.specs.declared.entry.Entry.{Entry}
use Rattle.acas_lines.specs.Lines.{count_line, joined, line_of}
use Rattle.acas_text.specs.Hex.{hex}
use Rattle.air_journal.specs.Airs.{address_of}
use Rattle.air_journal.specs.Cells.{commit_cells}
use Rattle.air_rules.specs.Journal.{cell_at}
use Rattle.flight.specs.Approach.{closest_cycle}
use Rattle.flight.specs.Flight.{position}
use Rattle.response.specs.Flown.{flown}

-- ---- pairs

-- A commit has a resolution advisory against another aircraft.
abbrev pub advises_against : Option Cells → ℕ → Bool
advises_against None other = false
advises_against (Some cells) other = has_advisory (cell_at cells other)

-- Some of so many commits of an aircraft has one.
abbrev pub ever_advises_against : List Entry → ℕ → ℕ → ℕ → Bool
ever_advises_against journal cycles own other = list_any (λ cycle. advises_against (commit_cells journal own cycle) other) (range_with_len 1 cycles)

-- One of two aircraft has a resolution advisory against the other, in some commit.
abbrev pub is_pair : Parts → List Entry → ℕ → ℕ → Bool
is_pair e journal a b = ever_advises_against journal e.cycles a b || ever_advises_against journal e.cycles b a

-- ---- how near they come

-- How far two altitudes are apart, in ft, rounded down: as planned, from 1/60 ft, and as flown, from 1/2048 ft.
abbrev pub planned_apart : Parts → ℕ → ℕ → ℕ → ℕ
planned_apart e a b cycle = unsigned_abs ((position e a cycle).z -ℤ (position e b cycle).z) / 60

abbrev pub flown_apart : Parts → List Entry → ℕ → ℕ → ℕ → ℕ
flown_apart e journal a b cycle = unsigned_abs (flown e journal a cycle -ℤ flown e journal b cycle) / 2048

-- ---- the text

-- The addresses of both, the cycle in which they are nearest as planned, and how far apart they are then.
abbrev pub approach_line : ℕ → ℕ → ℕ → ℕ → ℕ → List ℕ
approach_line one other cycle planned flown = line_of (codes "p" ∷ hex 6 one ∷ hex 6 other ∷ decimal cycle ∷ decimal planned ∷ decimal flown ∷ [])

abbrev pub pair_line : Parts → List Entry → ℕ → ℕ → List ℕ
pair_line e journal a b =
    let cycle = closest_cycle e a b in
    approach_line (address_of e a) (address_of e b) cycle (planned_apart e a b cycle) (flown_apart e journal a b cycle)

abbrev pub pair_lines : Parts → List Entry → ℕ → ℕ → List (List ℕ)
pair_lines e journal a b = if is_pair e journal a b then pair_line e journal a b ∷ [] else []

-- The lines of the pairs of an aircraft with those of higher index, and of all pairs.
abbrev pub lines_with : Parts → List Entry → ℕ → List (List ℕ)
lines_with e journal a = flat_map (pair_lines e journal a) (range_with_len (a + 1) (length e.crafts - (a + 1)))

unfoldable pub all_lines : Parts → List Entry → List (List ℕ)
all_lines e journal = flat_map (lines_with e journal) (range_with_len 0 (length e.crafts))

-- How many pairs there are, and the line of each.
abbrev pub response_lines : Parts → List Entry → List (List ℕ)
response_lines e journal = count_line (codes "response") (length (all_lines e journal)) ∷ all_lines e journal

abbrev pub response_text : Parts → List Entry → List ℕ
response_text e journal = joined (response_lines e journal)
