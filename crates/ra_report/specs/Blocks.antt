-- The RA report blocks of a journal. The newest entry of a journal stands first.
use Rattle.std.specs.Prelude.{ℕ, zero, suc, ◌&&◌, ◌||◌, ◌==◌, Bool, true, false, if◌then◌else◌, List, [], ◌∷◌, Option, Some, None, codes, filter, length, option_and_then, option_map, option_to_list}
use Rattle.std.specs.Fmt.{decimal}
use Rattle.std.specs.List.{flat_map, list_any, range_with_len}
use Rattle.acas_base.specs.Complements.{forbids}
use Rattle.acas_base.specs.Encounter.{Parts}
use Rattle.acas_base.specs.Messages.{has_advisory}
use Rattle.acas_base.specs.Senses.{is_same_sense, other_sense}
use Rattle.acas_base.specs.declared.advisory.Cell.{Cell}
use Rattle.acas_base.specs.declared.advisory.Cell.TheVariants.{Clear, Traffic, Ra}
use Rattle.acas_base.specs.declared.advisory.Cells.{Cells}
use Rattle.acas_base.specs.declared.advisory.Intent.{Intent}
use Rattle.acas_base.specs.declared.advisory.Sense.{Sense}
use Rattle.acas_base.specs.declared.advisory.Sense.TheVariants.{Up, Down}
use Rattle.acas_base.specs.declared.advisory.Strength.{Strength}
use Rattle.acas_base.specs.declared.advisory.Strength.TheVariants.{Limit2000, Limit1000, Limit500, Level, Positive, Increase}
use Rattle.acas_base.specs.declared.advisory.Vrc.{Vrc}
use Rattle.acas_base.specs.declared.entry.Entry.{Entry}
use Rattle.acas_base.specs.declared.entry.Entry.TheVariants.{Commit, Send, Take}
use Rattle.acas_lines.specs.Lines.{count_line, joined, line_of}
use Rattle.acas_text.specs.Hex.{hex}
use Rattle.air_journal.specs.Airs.{address_of, air_of}
use Rattle.air_rules.specs.Air.{is_ra}
use Rattle.air_rules.specs.Journal.{cell_at}
use Rattle.air_rules.specs.Takes.{complement_from}
use Rattle.ra_block.specs.Words.{word_of}
use Rattle.ra_block.specs.declared.block.RaBlock.{RaBlock}

-- ---- what follows from an aircraft's own commits: the cells of each of them, the last one first

abbrev pub cells_of : List Entry → ℕ → List Cells
cells_of [] craft = []
cells_of (Commit own cycle cells ∷ earlier) craft = if own == craft then cells ∷ cells_of earlier craft else cells_of earlier craft
cells_of (Send own target number word ∷ earlier) craft = cells_of earlier craft
cells_of (Take own send copy good ∷ earlier) craft = cells_of earlier craft

-- The aircraft against which a commit advises, among the first `count` ones.
abbrev pub threats : ℕ → Cells → List ℕ
threats count cells = filter (λ other. has_advisory (cell_at cells other)) (range_with_len 0 count)

-- An advisory, and the same advisory in its earlier cycles, down to age 1.
abbrev pub course_from : Cell → List Intent → List Intent
course_from Clear before = []
course_from Traffic before = []
course_from (Ra it) before = it ∷ (if it.age == 1 then [] else before)

-- The advisory of the last commit against an aircraft, with its earlier cycles.
abbrev pub course : List Cells → ℕ → List Intent
course [] other = []
course (cells ∷ before) other = course_from (cell_at cells other) (course before other)

-- The advisory has had this sense in one of these cycles.
abbrev pub has_had : List Cells → ℕ → Sense → Bool
has_had commits other sense = list_any (λ (it : Intent). is_same_sense it.sense sense) (course commits other)

abbrev pub is_increase : Strength → Bool
is_increase Limit2000 = false
is_increase Limit1000 = false
is_increase Limit500 = false
is_increase Level = false
is_increase Positive = false
is_increase Increase = true

-- It asks for a rate in its sense.
abbrev pub is_positive : Strength → Bool
is_positive Limit2000 = false
is_positive Limit1000 = false
is_positive Limit500 = false
is_positive Level = false
is_positive Positive = true
is_positive Increase = true

-- The block of an advisory against a threat of this address. `had` says which senses the advisory has had. The
-- complements in force are added later.
abbrev pub block_for : ℕ → (Sense → Bool) → Cell → Option RaBlock
block_for address had Clear = None
block_for address had Traffic = None
block_for address had (Ra it) = Some (record {
  corrective = it.corrective;
  downward = is_same_sense it.sense Down;
  increased = is_increase it.strength;
  reversal = had (other_sense it.sense);
  crossing = it.crossing;
  positive = is_positive it.strength;
  below = false;
  above = false;
  ended = false;
  threat = address;
})

-- The one item of a list that has exactly one.
abbrev pub only_one : List ℕ → Option ℕ
only_one [] = None
only_one (one ∷ []) = Some one
only_one (one ∷ another ∷ rest) = None

-- The block of the last commit, where it advises against exactly one aircraft.
abbrev pub fresh_block : Parts → List Cells → Option RaBlock
fresh_block e [] = None
fresh_block e (cells ∷ before) =
    option_and_then (λ other. block_for (address_of e other) (has_had (cells ∷ before) other) (cell_at cells other)) (only_one (threats (length e.crafts) cells))

abbrev pub is_none : List ℕ → Bool
is_none [] = true
is_none (one ∷ rest) = false

-- Looks at some last commits, from the newest one back. The first of them that advises at all decides: its block, where
-- it advises against exactly one aircraft.
abbrev pub held_block : Parts → ℕ → List Cells → Option RaBlock
held_block e zero commits = None
held_block e (suc left) [] = None
held_block e (suc left) (cells ∷ before) = if is_none (threats (length e.crafts) cells) then held_block e left before else fresh_block e (cells ∷ before)

-- For how many commits a block is held.
abbrev pub hold : ℕ
hold = 18

abbrev pub ended : RaBlock → RaBlock
ended b = record { corrective = b.corrective; downward = b.downward; increased = b.increased; reversal = b.reversal; crossing = b.crossing; positive = b.positive; below = b.below; above = b.above; ended = true; threat = b.threat }

-- The block after the last commit: that of its advisory, or the block that is held where it has no advisory.
abbrev pub advice : Parts → List Cells → Option RaBlock
advice e [] = None
advice e (cells ∷ before) = if is_none (threats (length e.crafts) cells) then option_map ended (held_block e hold before) else fresh_block e (cells ∷ before)

-- ---- what is in force before a commit

-- One of the first n numbers passes a test.
abbrev pub some_below : (ℕ → Bool) → ℕ → Bool
some_below test zero = false
some_below test (suc n) = some_below test n || test n

-- "Do not pass below", and "do not pass above".
abbrev pub is_not_below : Vrc → Bool
is_not_below vrc = forbids vrc Down

abbrev pub is_not_above : Vrc → Bool
is_not_above vrc = forbids vrc Up

abbrev pub limited : Bool → Bool → RaBlock → RaBlock
limited below above b = record { corrective = b.corrective; downward = b.downward; increased = b.increased; reversal = b.reversal; crossing = b.crossing; positive = b.positive; below = below; above = above; ended = b.ended; threat = b.threat }

-- Some aircraft's complement of this kind is in force on an aircraft.
abbrev pub is_limited : (Vrc → Bool) → Parts → List Entry → ℕ → Bool
is_limited kind e journal own = some_below (λ other. kind (complement_from (air_of e) journal own other)) (length e.crafts)

-- ---- the block of a commit, after the journal before it

abbrev pub block_of : Parts → List Entry → ℕ → Cells → Option RaBlock
block_of e earlier own cells =
    if is_ra (air_of e) own
    then option_map (limited (is_limited is_not_below e earlier own) (is_limited is_not_above e earlier own)) (advice e (cells ∷ cells_of earlier own))
    else None

-- The block of an aircraft's commit of a cycle. None where it hasn't committed that cycle.
abbrev pub block_in : Parts → List Entry → ℕ → ℕ → Option RaBlock
block_in e [] craft of_cycle = None
block_in e (Commit own cycle cells ∷ earlier) craft of_cycle = if own == craft && cycle == of_cycle then block_of e earlier own cells else block_in e earlier craft of_cycle
block_in e (Send own target number word ∷ earlier) craft of_cycle = block_in e earlier craft of_cycle
block_in e (Take own send copy good ∷ earlier) craft of_cycle = block_in e earlier craft of_cycle

-- ---- the text

abbrev pub block_line : ℕ → ℕ → RaBlock → List ℕ
block_line cycle address block = line_of (codes "b" ∷ decimal cycle ∷ hex 6 address ∷ hex 14 (word_of block) ∷ [])

abbrev pub lines_of : Parts → List Entry → ℕ → ℕ → List (List ℕ)
lines_of e journal cycle own = option_to_list (option_map (block_line cycle (address_of e own)) (block_in e journal own cycle))

-- By index.
abbrev pub lines_in : Parts → List Entry → ℕ → List (List ℕ)
lines_in e journal cycle = flat_map (lines_of e journal cycle) (range_with_len 0 (length e.crafts))

-- By cycle.
unfoldable pub block_lines : Parts → List Entry → List (List ℕ)
block_lines e journal = flat_map (lines_in e journal) (range_with_len 1 e.cycles)

abbrev pub report_lines : Parts → List Entry → List (List ℕ)
report_lines e journal = count_line (codes "blocks") (length (block_lines e journal)) ∷ block_lines e journal

abbrev pub report_text : Parts → List Entry → List ℕ
report_text e journal = joined (report_lines e journal)
