-- The notes of a line of the file, from its fields.
use Rattle.std.specs.Prelude.{ℕ, ◌-◌, ◌==◌, not, nat_le, nat_lt, if◌then◌else◌, List, [], ◌++◌, length, Option, Some, None, option_map, option_to_list}
use Rattle.std.specs.Option.{option_and_then}
use Rattle.acas_base.specs.Encounter.{Parts, is_active_at}
use Rattle.acas_base.specs.declared.craft.CraftSpec.{CraftSpec}
use Rattle.acas_base.specs.declared.entry.Entry.{Entry}
use Rattle.enc_file.specs.Conditions.{kind_named}
use Rattle.enc_file.specs.Conditions as stated
use Rattle.enc_file.specs.Earlier.{index_of, pair_number}
use Rattle.enc_file.specs.Values.{address_in, count_in, field}
use Rattle.flight.specs.Measurement.{own_altitude}
use Rattle.idle_notes.specs.Aircraft.{first_below, is_alone, is_low}
use Rattle.idle_notes.specs.Messages.{are_ra, first_idle, idle_fates, is_ra_at, most_sent}
use Rattle.idle_notes.specs.Rates.{keeps_rates}
use Rattle.idle_notes.specs.declared.named.Named.{Named}
use Rattle.idle_notes.specs.declared.note.Note.{Note}
use Rattle.idle_notes.specs.declared.note.Note.TheVariants as note

-- The aircraft whose address stands in a field.
abbrev pub with_index : List CraftSpec → ℕ → Option Named
with_index crafts address = option_map (λ (index : ℕ). record { address = address; index = index }) (index_of crafts address)

abbrev pub named_in : List CraftSpec → List ℕ → Option Named
named_in crafts found = option_and_then (with_index crafts) (address_in found)

-- What a function gives for the aircraft in a field, and for the cycle or the number in one.
abbrev pub for_named : {X : Type 0} → Parts → List (List ℕ) → ℕ → (Named → Option X) → Option X
for_named e fields place f = option_and_then f (named_in e.crafts (field fields place))

abbrev pub for_count : {X : Type 0} → List (List ℕ) → ℕ → (ℕ → Option X) → Option X
for_count fields place f = option_and_then f (count_in 1 600 (field fields place))

-- ---- records

-- A leg that begins in the last cycle or later moves nothing in the run; nor does one of the rates of before.
abbrev pub leg_note_of : Parts → Named → ℕ → Option Note
leg_note_of e craft from =
    if nat_le e.cycles from then Some (note.LateLeg craft.address e.cycles) else
    if keeps_rates e craft.index from then Some (note.SameRates craft.address) else None

abbrev pub leg_note : Parts → List (List ℕ) → Option Note
leg_note e fields = for_named e fields 1 (λ craft. for_count fields 2 (leg_note_of e craft))

-- A miss of an aircraft that isn't active, or that begins after the last cycle.
abbrev pub miss_note_of : Parts → Named → ℕ → Option Note
miss_note_of e own from =
    if not (is_active_at e.crafts own.index) then Some (note.PassiveMiss own.address) else
    if nat_lt e.cycles from then Some (note.LateMiss e.cycles) else None

abbrev pub miss_note : Parts → List (List ℕ) → Option Note
miss_note e fields = for_named e fields 1 (λ own. for_count fields 3 (miss_note_of e own))

-- A ceiling of an aircraft that isn't of kind RA.
abbrev pub climb_note_of : Parts → Named → Option Note
climb_note_of e craft = if is_ra_at e.crafts craft.index then None else Some (note.IdleClimb craft.address)

abbrev pub climb_note : Parts → List (List ℕ) → Option Note
climb_note e fields = for_named e fields 1 (climb_note_of e)

-- Of a sender and a receiver, one that isn't of kind RA.
abbrev pub silent_of : Parts → Named → Named → Named
silent_of e sender receiver = if is_ra_at e.crafts sender.index then receiver else sender

-- A plan of two aircraft of which one isn't of kind RA.
abbrev pub plan_note_of : Parts → Named → Named → Option Note
plan_note_of e sender receiver = if are_ra e.crafts sender.index receiver.index then None else Some (note.IdlePlan (silent_of e sender receiver).address)

abbrev pub plan_note : Parts → List (List ℕ) → Option Note
plan_note e fields = for_named e fields 1 (λ sender. for_named e fields 2 (plan_note_of e sender))

-- The first idle fate of a pair stands for all of them.
abbrev pub more_idle : Parts → Option (List Entry) → Named → Named → ℕ
more_idle e journal sender receiver = length (idle_fates e journal (pair_number sender.index receiver.index)) - 1

abbrev pub unsent_note : Parts → Option (List Entry) → Named → Named → ℕ → Note
unsent_note e None sender receiver more = note.LateFates more sender.address receiver.address e.cycles
unsent_note e (Some journal) sender receiver more = note.UnsentFates more sender.address receiver.address (most_sent e (Some journal) sender.index receiver.index)

abbrev pub idle_note : Parts → Option (List Entry) → Named → Named → ℕ → Note
idle_note e journal sender receiver more =
    if are_ra e.crafts sender.index receiver.index then unsent_note e journal sender receiver more
    else note.SilentFates more (silent_of e sender receiver).address

abbrev pub fate_note_if : Parts → Option (List Entry) → Named → Named → ℕ → ℕ → Option Note
fate_note_if e journal sender receiver number first =
    if first == number then Some (idle_note e journal sender receiver (more_idle e journal sender receiver)) else None

abbrev pub fate_note_of : Parts → Option (List Entry) → Named → Named → ℕ → Option Note
fate_note_of e journal sender receiver number =
    option_and_then (fate_note_if e journal sender receiver number) (first_idle e journal (pair_number sender.index receiver.index))

abbrev pub fate_note : Parts → Option (List Entry) → List (List ℕ) → Option Note
fate_note e journal fields = for_named e fields 1 (λ sender. for_named e fields 2 (λ receiver. for_count fields 3 (fate_note_of e journal sender receiver)))

-- ---- aircraft

abbrev pub low_note_of : Parts → Named → Option Note
low_note_of e craft = if is_low e craft.index then Some (note.LowAircraft craft.address) else None

abbrev pub alone_note_of : Parts → Named → Option Note
alone_note_of e craft = if is_alone e craft.index then Some (note.LoneAircraft craft.address) else None

abbrev pub ground_note_of : Parts → Named → Option Note
ground_note_of e craft = option_map (λ (cycle : ℕ). note.BelowGround craft.address cycle (own_altitude e craft.index cycle) e.elevation) (first_below e craft.index)

-- ---- a line

-- The note of a record that is no aircraft.
abbrev pub record_note : Parts → Option (List Entry) → stated.RecordKind → List (List ℕ) → Option Note
record_note e journal stated.ProfileKind fields = None
record_note e journal stated.NameKind fields = None
record_note e journal stated.ClockKind fields = None
record_note e journal stated.RunKind fields = None
record_note e journal stated.GainsKind fields = None
record_note e journal stated.CraftKind fields = None
record_note e journal stated.CallKind fields = None
record_note e journal stated.ClimbKind fields = climb_note e fields
record_note e journal stated.LegKind fields = leg_note e fields
record_note e journal stated.MissKind fields = miss_note e fields
record_note e journal stated.PlanKind fields = plan_note e fields
record_note e journal stated.FateKind fields = fate_note e journal fields
record_note e journal stated.EndKind fields = None

-- The notes of an aircraft.
abbrev pub craft_notes : Parts → List (List ℕ) → List Note
craft_notes e fields =
    option_to_list (for_named e fields 1 (low_note_of e)) ++ option_to_list (for_named e fields 1 (alone_note_of e)) ++ option_to_list (for_named e fields 1 (ground_note_of e))

-- The notes of a record of a kind.
abbrev pub kind_notes : Parts → Option (List Entry) → stated.RecordKind → List (List ℕ) → List Note
kind_notes e journal stated.CraftKind fields = craft_notes e fields
kind_notes e journal stated.ProfileKind fields = option_to_list (record_note e journal stated.ProfileKind fields)
kind_notes e journal stated.NameKind fields = option_to_list (record_note e journal stated.NameKind fields)
kind_notes e journal stated.ClockKind fields = option_to_list (record_note e journal stated.ClockKind fields)
kind_notes e journal stated.RunKind fields = option_to_list (record_note e journal stated.RunKind fields)
kind_notes e journal stated.GainsKind fields = option_to_list (record_note e journal stated.GainsKind fields)
kind_notes e journal stated.CallKind fields = option_to_list (record_note e journal stated.CallKind fields)
kind_notes e journal stated.ClimbKind fields = option_to_list (record_note e journal stated.ClimbKind fields)
kind_notes e journal stated.LegKind fields = option_to_list (record_note e journal stated.LegKind fields)
kind_notes e journal stated.MissKind fields = option_to_list (record_note e journal stated.MissKind fields)
kind_notes e journal stated.PlanKind fields = option_to_list (record_note e journal stated.PlanKind fields)
kind_notes e journal stated.FateKind fields = option_to_list (record_note e journal stated.FateKind fields)
kind_notes e journal stated.EndKind fields = option_to_list (record_note e journal stated.EndKind fields)

abbrev pub notes_by : Parts → Option (List Entry) → Option stated.RecordKind → List (List ℕ) → List Note
notes_by e journal None fields = []
notes_by e journal (Some kind) fields = kind_notes e journal kind fields

-- The kind is the first field. The kinds that only format 3 has have no notes.
unfoldable pub notes_of : Parts → Option (List Entry) → List (List ℕ) → List Note
notes_of e journal fields = notes_by e journal (kind_named 2 (field fields 0)) fields
