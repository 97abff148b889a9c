-- The lines of an aircraft against another one.
use Rattle.std.specs.Prelude.{ℕ, ◌-◌, ◌/◌, Bool, not, ◌&&◌, nat_lt, nat_le, if◌then◌else◌, ℤ, pos, ◌-ℤ◌, int_lt, unsigned_abs, List, [], ◌∷◌, ◌++◌, codes, length, map, take, Option, Some, None, is_some}
use Rattle.std.specs.Fmt.{decimal}
use Rattle.std.specs.Option.{option_map_or}
use Rattle.acas_base.specs.Encounter.{Parts, is_active_kind}
use Rattle.acas_base.specs.Senses.{is_same_sense}
use Rattle.acas_base.specs.Strengths.{place_of}
use Rattle.acas_base.specs.declared.advisory.Cell.{Cell}
use Rattle.acas_base.specs.declared.advisory.Cell.TheVariants.{Clear, Traffic, Ra}
use Rattle.acas_base.specs.declared.advisory.Intent.{Intent}
use Rattle.acas_base.specs.declared.advisory.Sense.{Sense}
use Rattle.acas_base.specs.declared.advisory.Sense.TheVariants.{Up, Down}
use Rattle.acas_base.specs.declared.advisory.Strength.{Strength}
use Rattle.acas_base.specs.declared.craft.Kind.{Kind}
use Rattle.acas_base.specs.declared.craft.Kind.TheVariants as kinds
use Rattle.acas_base.specs.declared.entry.Entry.{Entry}
use Rattle.acas_text.specs.Hex.{hex}
use Rattle.advisory_report.specs.Composite.{down_word, shown, up_word}
use Rattle.advisory_report.specs.declared.composite.Composite.{Composite}
use Rattle.air_journal.specs.Airs.{address_of, air_of, kind_of}
use Rattle.air_journal.specs.Cells.{commit_cells}
use Rattle.air_rules.specs.Air.{rank_of}
use Rattle.air_rules.specs.Journal.{Sent, sent_at}
use Rattle.flight.specs.Flight.{position}
use Rattle.response.specs.Flown.{altitude_units, flown}
use Rattle.summary.specs.Fields.{cycles_text, kind_text, more_line, rank_text, word_columns}
use Rattle.summary.specs.Stretches.{cell_in, last_of, starts_of}
use Rattle.summary.specs.declared.told.Told.{Told}
use Rattle.summary.specs.declared.notes.Stretch.{Stretch}
use Rattle.summary.specs.declared.rows.Start.{Start}

-- ---- what began it

-- The number of a message, and of the one that was sent at a position.
abbrev pub number_of : Option Sent → ℕ
number_of None = 0
number_of (Some sent) = sent.number

abbrev pub number_at : List Entry → ℕ → ℕ
number_at journal position = number_of (sent_at journal position)

-- A message of an aircraft: its number, and the positions of its send and of its take.
abbrev pub message_text : ℕ → ℕ → Told → List ℕ
message_text number sender told =
    codes "message " ++ decimal number ++ codes " of " ++ hex 6 sender ++ codes ", positions " ++ decimal told.sent_at ++ codes " and " ++ decimal told.taken_at

-- After these words, the message, where there is one.
abbrev pub by_message : List ℕ → List Entry → ℕ → Option Told → List ℕ
by_message words journal sender None = []
by_message words journal sender (Some told) = words ++ message_text (number_at journal told.sent_at) sender told

-- The sense changed by a geometric reversal.
abbrev pub is_reversed : Intent → Intent → Bool
is_reversed before now = now.turned && not before.turned

-- What began an advisory after another one, by the message in force.
abbrev pub change_text : Intent → Intent → List ℕ → List ℕ
change_text before now message =
    if is_same_sense before.sense now.sense
    then (if nat_lt (place_of before.strength) (place_of now.strength) then codes "stronger" else codes "weaker")
    else (if is_reversed before now then codes "REVERSED by the flight" else codes "TURNED" ++ message)

-- What began an advisory, by the cell before it, who sends messages, and the message in force.
abbrev pub begun_text : List Entry → ℕ → Cell → Intent → Option Told → List ℕ
begun_text journal sender Clear now told = codes "new" ++ by_message (codes ", as told by ") journal sender told
begun_text journal sender Traffic now told = codes "new" ++ by_message (codes ", as told by ") journal sender told
begun_text journal sender (Ra before) now told = change_text before now (by_message (codes " by ") journal sender told)

abbrev pub crossing_text : Bool → List ℕ
crossing_text crossing = if crossing then codes "; crossing" else []

-- ---- how the flight stood to it

-- By how much the modelled altitude is above the planned one, in 1/2048 ft.
abbrev pub above_plan : Parts → List Entry → ℕ → ℕ → ℤ
above_plan e journal own cycle = flown e journal own cycle -ℤ altitude_units (position e own cycle).z

-- There is advice in this sense and none in the other one.
abbrev pub has_alone : Sense → Composite → Bool
has_alone Up composite = is_some composite.up && not (is_some composite.down)
has_alone Down composite = is_some composite.down && not (is_some composite.up)

-- The planned flight is on the wrong side of the modelled one, in this sense.
abbrev pub is_behind : Sense → ℤ → Bool
is_behind Up above = int_lt (pos 0) above
is_behind Down above = int_lt above (pos 0)

-- How far the planned flight is from the modelled one, in ft.
abbrev pub distance_text : Bool → ℕ → List ℕ
distance_text behind feet =
    if nat_le feet 25 then codes "; as modelled"
    else (if behind then codes "; " ++ decimal feet ++ codes " ft behind the modelled response" else codes "; " ++ decimal feet ++ codes " ft beyond the modelled response")

abbrev pub flight_text : Sense → Composite → ℤ → List ℕ
flight_text sense composite above = if has_alone sense composite then distance_text (is_behind sense above) (unsigned_abs above / 2048) else []

-- ---- a stretch

-- The word of the report of a sense and a strength.
abbrev pub advice_word : Sense → Strength → List ℕ
advice_word Up strength = up_word strength
advice_word Down strength = down_word strength

-- What a stretch shows: traffic; or an advisory, what began it, whether it crosses, and how the flight stood to it in
-- the last cycle.
abbrev pub notes : List Entry → ℕ → Stretch → Intent → List ℕ
notes journal sender it now = codes "  " ++ begun_text journal sender it.before now it.told ++ crossing_text now.crossing ++ flight_text now.sense it.composite it.above

abbrev pub shown_text : List Entry → ℕ → Stretch → Cell → List ℕ
shown_text journal sender it Clear = []
shown_text journal sender it Traffic = codes "TRAFFIC"
shown_text journal sender it (Ra now) = word_columns (advice_word now.sense now.strength) ++ notes journal sender it now

abbrev pub stretch_text : List Entry → ℕ → Stretch → List ℕ
stretch_text journal sender it = codes "    " ++ cycles_text it.first it.last ++ codes "  " ++ shown_text journal sender it it.cell ++ codes "\n"

-- The stretch that begins in a cycle, where this message was in force.
abbrev pub stretch_to : Parts → List Entry → ℕ → ℕ → Start → ℕ → Stretch
stretch_to e journal own other start last = record {
  first = start.cycle;
  last = last;
  before = cell_in journal own other (start.cycle - 1);
  cell = cell_in journal own other start.cycle;
  told = start.told;
  composite = shown (commit_cells journal own last);
  above = above_plan e journal own last;
}

abbrev pub stretch_of : Parts → List Entry → ℕ → ℕ → Start → Stretch
stretch_of e journal own other start = stretch_to e journal own other start (last_of journal e.cycles own other start.cycle)

abbrev pub stretch_line : Parts → List Entry → ℕ → ℕ → Start → List ℕ
stretch_line e journal own other start = stretch_text journal (address_of e other) (stretch_of e journal own other start)

-- ---- an aircraft

-- Neither traffic nor advice.
abbrev pub quiet : List ℕ
quiet = codes "no traffic, no advice\n"

-- So many stretches are told.
abbrev pub told_stretches : ℕ
told_stretches = 16

-- The line that says how many rows aren't told, where there are more than so many.
abbrev pub more_lines : ℕ → ℕ → List (List ℕ)
more_lines most count = if nat_lt most count then more_line (count - most) ∷ [] else []

abbrev pub stretch_lines : Parts → List Entry → ℕ → ℕ → List Start → List (List ℕ)
stretch_lines e journal own other [] = (codes "    " ++ quiet) ∷ []
stretch_lines e journal own other (first ∷ rest) =
    map (stretch_line e journal own other) (take told_stretches (first ∷ rest)) ++ more_lines told_stretches (length (first ∷ rest))

-- The address, the kind, and the rank of an aircraft of kind RA.
abbrev pub craft_line : ℕ → List ℕ → List ℕ
craft_line address words = codes "  " ++ hex 6 address ++ codes " " ++ words ++ codes "\n"

abbrev pub rank_part : Parts → ℕ → ℕ → Kind → List ℕ
rank_part e own other kinds.Ra = rank_text (rank_of (air_of e) own other)
rank_part e own other kinds.Ta = []
rank_part e own other kinds.Xpdr = []

-- An aircraft of a kind that doesn't advise has this line alone.
abbrev pub lines_of_kind : Parts → List Entry → ℕ → ℕ → Kind → List (List ℕ)
lines_of_kind e journal own other kind =
    craft_line (address_of e own) (kind_text kind ++ rank_part e own other kind)
    ∷ (if is_active_kind kind then stretch_lines e journal own other (starts_of (air_of e) journal own other) else [])

abbrev pub craft_lines : Parts → List Entry → ℕ → ℕ → List (List ℕ)
craft_lines e journal own other = option_map_or (lines_of_kind e journal own other) (kind_of e own) []
