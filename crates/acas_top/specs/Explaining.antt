-- What is said of an input in which nothing is wrong.
use Rattle.std.specs.Prelude.{ℕ, ◌==◌, if◌then◌else◌, List, ◌∷◌, ◌++◌, codes, length, None, Some}
use Rattle.std.specs.Fmt.{decimal}
use Rattle.acas_base.specs.Encounter.{Parts}
use Rattle.air_journal.specs.States.{State}
use Rattle.enc_file.specs.Records.{records_of}
use Rattle.fault_text.specs.Faultless.{faultless_line}
use Rattle.idle_notes.specs.Told.{notes_text_lines}

-- The text of an encounter, and the encounter that it says.
pub record EncounterFile : Type 0 where
  pub text : List ℕ
  pub encounter : Parts

-- What it is, and then what of it has no effect.
abbrev pub right_encounter_lines : EncounterFile → List (List ℕ)
right_encounter_lines right = faultless_line (codes "encounter: ") right.encounter (length (records_of right.text)) ∷ notes_text_lines right.text right.encounter None

-- Recorded tracks along which the aircraft of this encounter fly, in a text of so many records.
abbrev pub right_tracks_line : Parts → ℕ → List ℕ
right_tracks_line e records = faultless_line (codes "tracks: ") e records

-- A recording, and the state of the air after its journal.
pub record RecordingFile : Type 0 where
  pub text : List ℕ
  pub state : State

-- Nothing is wrong with a recording of this many entries.
abbrev pub entries_text : ℕ → List ℕ
entries_text entries = if entries == 1 then codes " entry\n" else codes " entries\n"

abbrev pub legal_line : ℕ → List ℕ
legal_line entries = codes "recording: legal, " ++ decimal entries ++ entries_text entries

-- How many entries it has, and then what has no effect in its encounter. Fates of messages that its journal doesn't send
-- have none.
abbrev pub right_recording_lines : RecordingFile → List (List ℕ)
right_recording_lines right = legal_line (length right.state.journal) ∷ notes_text_lines right.text right.state.encounter (Some right.state.journal)
