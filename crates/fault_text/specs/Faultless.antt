-- What is said of an encounter in which nothing is wrong.
use Rattle.std.specs.Prelude.{ℕ, ◌++◌, ◌==◌, Bool, true, false, if◌then◌else◌, List, codes, length}
use Rattle.std.specs.List.{count_by}
use Rattle.std.specs.Fmt.{decimal}
use Rattle.acas_base.specs.Encounter.{Parts}
use Rattle.acas_base.specs.declared.craft.CraftSpec.{CraftSpec}
use Rattle.acas_base.specs.declared.craft.Kind.{Kind}
use Rattle.acas_base.specs.declared.craft.Kind.TheVariants.{Ra, Ta, Xpdr}

-- The kinds of aircraft.
abbrev pub is_ra : Kind → Bool
is_ra Ra = true
is_ra other = false

abbrev pub is_ta : Kind → Bool
is_ta Ta = true
is_ta other = false

abbrev pub is_xpdr : Kind → Bool
is_xpdr Xpdr = true
is_xpdr other = false

-- How many aircraft are of a kind.
abbrev pub kind_count : (Kind → Bool) → List CraftSpec → ℕ
kind_count of crafts = count_by (λ (craft : CraftSpec). of craft.kind) crafts

abbrev pub kinds_text : List CraftSpec → List ℕ
kinds_text crafts =
    decimal (kind_count is_ra crafts) ++ codes " RA, " ++ decimal (kind_count is_ta crafts) ++ codes " TA, " ++ decimal (kind_count is_xpdr crafts) ++ codes " XPDR"

abbrev pub crafts_text : List CraftSpec → List ℕ
crafts_text crafts = decimal (length crafts) ++ codes " aircraft (" ++ kinds_text crafts ++ codes "), "

abbrev pub cycles_text : ℕ → List ℕ
cycles_text cycles = if cycles == 1 then codes " cycle, " else codes " cycles, "

abbrev pub extent_text : ℕ → ℕ → List ℕ
extent_text cycles records = decimal cycles ++ cycles_text cycles ++ decimal records ++ codes " records\n"

-- Nothing is wrong with the text of an encounter, or with another text that says one. The first words tell what it is.
abbrev pub faultless_line : List ℕ → Parts → ℕ → List ℕ
faultless_line what e records = what ++ crafts_text e.crafts ++ extent_text e.cycles records
