-- The table of places: where each aircraft is in each cycle, where it would be with the modelled response, and what its
-- crew is shown.
use Rattle.std.specs.Prelude.{ℕ, ◌-◌, Bool, if◌then◌else◌, ℤ, List, [], ◌∷◌, codes, length, Option, Some, None}
use Rattle.std.specs.Fmt.{decimal, signed_decimal}
use Rattle.std.specs.List.{flat_map, list_any, range_with_len}
use Rattle.std.specs.Option.{option_map_or}
use Rattle.acas_base.specs.Encounter.{Parts}
use Rattle.acas_base.specs.declared.advisory.Cells.{Cells}
use Rattle.acas_base.specs.declared.entry.Entry.{Entry}
use Rattle.acas_lines.specs.Lines.{joined, line_of}
use Rattle.acas_text.specs.Fields.{if_any, with_point}
use Rattle.acas_text.specs.Hex.{hex}
use Rattle.advisory_report.specs.Composite.{composite_of, shown, word_of}
use Rattle.advisory_report.specs.Phrases.{has_advice}
use Rattle.air_journal.specs.Airs.{address_of}
use Rattle.air_journal.specs.Cells.{commit_cells}
use Rattle.flight.specs.Flight.{position}
use Rattle.flight.specs.declared.place.Place.{Place}
use Rattle.journal_tables.specs.Fields.{modelled_tenths, planned_tenths}
use Rattle.response.specs.Flown.{flown}

-- A commit of an aircraft shows advice.
abbrev pub advises : List Entry → ℕ → ℕ → Bool
advises journal craft cycle = has_advice (shown (commit_cells journal craft cycle))

-- Some commit of an aircraft before a cycle does.
abbrev pub was_advised : List Entry → ℕ → ℕ → Bool
was_advised journal craft cycle = list_any (advises journal craft) (range_with_len 1 (cycle - 1))

-- The altitude of an aircraft with the modelled response, in tenths of a foot; none up to the first cycle with advice,
-- that one included, and where there is none.
abbrev pub modelled_altitude : Parts → List Entry → ℕ → ℕ → Option ℤ
modelled_altitude e journal craft cycle = if was_advised journal craft cycle then Some (modelled_tenths (flown e journal craft cycle)) else None

-- What the cells of a commit say together, as a word; nothing of an aircraft that makes no commits.
abbrev pub word_by : Option Cells → List ℕ
word_by cells = option_map_or (λ (it : Cells). word_of (composite_of it)) cells []

abbrev pub word_in : List Entry → ℕ → ℕ → List ℕ
word_in journal craft cycle = word_by (commit_cells journal craft cycle)

-- ---- the text

unfoldable pub place_names : List ℕ
place_names = codes "cycle,address,x_ft,y_ft,alt_ft,modelled_alt_ft,word\n"

abbrev pub place_fields : ℕ → ℕ → Place → Option ℤ → List ℕ → List (List ℕ)
place_fields cycle address place modelled word =
    decimal cycle ∷ hex 6 address ∷ signed_decimal place.x ∷ signed_decimal place.y ∷ with_point (planned_tenths place.z) ∷ if_any with_point modelled ∷ word ∷ []

-- The line of an aircraft in a cycle.
abbrev pub place_line : Parts → List Entry → ℕ → ℕ → List ℕ
place_line e journal cycle craft =
    line_of (place_fields cycle (address_of e craft) (position e craft cycle) (modelled_altitude e journal craft cycle) (word_in journal craft cycle))

abbrev pub lines_of : Parts → List Entry → ℕ → ℕ → List (List ℕ)
lines_of e journal cycle craft = place_line e journal cycle craft ∷ []

-- By index.
abbrev pub lines_in : Parts → List Entry → ℕ → List (List ℕ)
lines_in e journal cycle = flat_map (lines_of e journal cycle) (range_with_len 0 (length e.crafts))

-- By cycle.
unfoldable pub cycle_lines : Parts → List Entry → List (List ℕ)
cycle_lines e journal = flat_map (lines_in e journal) (range_with_len 1 e.cycles)

-- The names of the columns, and a line for each cycle and aircraft.
abbrev pub place_lines : Parts → List Entry → List (List ℕ)
place_lines e journal = place_names ∷ cycle_lines e journal

abbrev pub places_text : Parts → List Entry → List ℕ
places_text e journal = joined (place_lines e journal)
