-- The lines of outcomes.
use Rattle.std.specs.Prelude.{ℕ, if◌then◌else◌, nat_lt, List, [], ◌∷◌, ◌++◌, codes, Option, Some, None, slice_index_or}
use Rattle.std.specs.Fmt.{decimal}
use Rattle.std.specs.List.{flat_map, range_with_len}
use Rattle.acas_base.specs.declared.TheConstants.{CRAFTS}
use Rattle.acas_text.specs.Hex.{hex}
use Rattle.outcomes.specs.declared.advised.Senses.{Senses}
use Rattle.outcomes.specs.declared.advised.Senses.TheVariants.{Neither, Up, Down, Both}
use Rattle.outcomes.specs.declared.crews.Heard.{Heard}
use Rattle.outcomes.specs.declared.crews.Heard.TheVariants.{Same, Other}
use Rattle.outcomes.specs.declared.lines.Variant.{Variant}
use Rattle.outcomes.specs.declared.nearest.Nearest.{Nearest}
use Rattle.outcomes.specs.declared.outcome.Outcome.{Outcome}

abbrev pub letter : Senses → List ℕ
letter Neither = codes "-"
letter Up = codes "U"
letter Down = codes "D"
letter Both = codes "B"

-- A letter for each of the first so many aircraft, by index.
abbrev pub letter_of : ℕ → List Senses → ℕ → List ℕ
letter_of crafts list own = if nat_lt own crafts then letter (slice_index_or list own Neither) else []

unfoldable pub letters : ℕ → List Senses → List ℕ
letters crafts list = flat_map (letter_of crafts list) (range_with_len 0 CRAFTS)

abbrev pub cycle_text : Option ℕ → List ℕ
cycle_text None = codes "-"
cycle_text (Some cycle) = decimal cycle

-- The addresses of the two aircraft that come nearest; and the cycle, the slant range, and how far apart their altitudes
-- are, as planned and with the modelled response.
abbrev pub addresses_text : Nearest → List ℕ
addresses_text it = hex 6 it.one ++ codes "," ++ hex 6 it.other

abbrev pub distances_text : Nearest → List ℕ
distances_text it = 44 ∷ decimal it.cycle ++ 44 ∷ decimal it.slant ++ 44 ∷ decimal it.planned ++ 44 ∷ decimal it.flown

-- Six fields.
abbrev pub nearest_text : Option Nearest → List ℕ
nearest_text None = codes "-,-,-,-,-,-"
nearest_text (Some it) = addresses_text it ++ distances_text it

-- The first cycle with an advisory, and the senses of the first and of the last advice of each aircraft.
abbrev pub advised_text : Outcome → List ℕ
advised_text it = cycle_text it.first ++ codes "," ++ letters it.crafts it.began ++ codes "," ++ letters it.crafts it.ended

-- Turns, reversals and equal senses.
abbrev pub times_text : Outcome → List ℕ
times_text it = 44 ∷ decimal it.turns ++ 44 ∷ decimal it.reversals ++ 44 ∷ decimal it.equal

-- The twelve fields of an outcome. A comma stands before each.
abbrev pub outcome_text : Outcome → List ℕ
outcome_text it = codes "," ++ advised_text it ++ times_text it ++ codes "," ++ nearest_text it.nearest

abbrev pub heard_text : Heard → List ℕ
heard_text Same = codes "1"
heard_text Other = codes "0"

-- What ends the line of a variant: its outcome, and whether the crews see and hear the same; or that there is none.
abbrev pub variant_text : Option Variant → List ℕ
variant_text None = codes ",none\n"
variant_text (Some it) = outcome_text it.outcome ++ codes "," ++ heard_text it.heard ++ codes "\n"

-- What ends the line of an encounter that is told by itself.
abbrev pub piece_text : Outcome → List ℕ
piece_text it = outcome_text it ++ codes "\n"
