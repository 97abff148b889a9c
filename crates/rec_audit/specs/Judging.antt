-- How a recording is judged.
use Rattle.std.specs.Prelude.{◌≡◌, ℕ, ◌+◌, ◌<◌, ◌≤◌, List, [], ◌∷◌, ◌++◌, length}
use Rattle.acas_base.specs.Encounter.{Parts}
use Rattle.acas_base.specs.declared.entry.Entry.{Entry}
use Rattle.acas_lines.specs.Split.{lines_of}
use Rattle.acas_lines.specs.Lines.{joined}
use Rattle.air_journal.specs.Airs.{air_of}
use Rattle.air_journal.specs.States.{IsJournalOf, State}
use Rattle.air_rules.specs.Rules.{IsComplete}
use Rattle.enc_file.specs.Canonical.{canonical_lines}
use Rattle.acas_lines.specs.Differing.{DifferAt}
use Rattle.rec_audit.specs.Opening.{IsWrongOpening, Opens, first_entry}
use Rattle.rec_audit.specs.Replays.{Replays, StopsAt}
use Rattle.rec_audit.specs.declared.opening.TheConstants.{MOST_TOLD}
use Rattle.rec_audit.specs.declared.verdict.Reason.{Reason}
use Rattle.rec_audit.specs.declared.verdict.Reason.TheVariants.{Spelling, Incomplete, Report}
use Rattle.rec_audit.specs.declared.verdict.Loaded.{Loaded}
use Rattle.rec_audit.specs.declared.verdict.Loaded.TheVariants as loaded
use Rattle.rec_audit.specs.declared.verdict.Verdict.{Verdict}
use Rattle.rec_audit.specs.declared.verdict.Verdict.TheVariants as verdict
use Rattle.rec_text.specs.Entries.{entry_lines}
use Rattle.rec_text.specs.Recording.{closing_lines, head_line, journal_line, recording}

-- ---- whole recordings

-- The bytes are the recording of an encounter inside the box and a legal and complete journal.
pub record IsRecordingOf (bytes : List ℕ) (state : State) : Type 0 where
  pub is_journal : IsJournalOf state.encounter state.journal
  pub complete : IsComplete (air_of state.encounter) state.journal
  pub bytes_are : bytes ≡ recording state.encounter state.journal

-- What is wrong after the number of entries: the line, from 1, and the reason.
pub data IsWrongAfter (e : Parts) (count : ℕ) (lines : List (List ℕ)) : ℕ → Reason → Type 0 where
  wrong_entry : {entries : ℕ} {reason : Reason} → StopsAt (air_of e) lines entries reason → entries < count → IsWrongAfter e count lines (first_entry e + entries) reason
  too_few : {journal : List Entry} → Replays (air_of e) lines journal [] → length journal < count → IsWrongAfter e count lines (first_entry e + length journal) Spelling
  incomplete : {journal : List Entry} {rest : List (List ℕ)} → Replays (air_of e) lines journal rest → length journal ≡ count → (IsComplete (air_of e) journal → ⊥) → IsWrongAfter e count lines (first_entry e + count) Incomplete
  other_end : {journal : List Entry} {rest : List (List ℕ)} {same : ℕ} → Replays (air_of e) lines journal rest → length journal ≡ count → IsComplete (air_of e) journal → DifferAt same rest (closing_lines e journal) →
      IsWrongAfter e count lines (first_entry e + (count + same)) Report

-- What is wrong with the lines of a recording. It is the line, from 1, and the reason of the first step that fails.
pub data IsWrong (lines : List (List ℕ)) : ℕ → Reason → Type 0 where
  at_opening : {line : ℕ} {reason : Reason} → IsWrongOpening lines line reason → IsWrong lines line reason
  after_opening : {e : Parts} {count line : ℕ} {rest : List (List ℕ)} {reason : Reason} → Opens e count lines rest → IsWrongAfter e count rest line reason → IsWrong lines line reason

-- The bytes are a recording of this many entries.
pub record IsRecording (bytes : List ℕ) (entries : ℕ) : Type 0 where
  pub state : State
  pub recording : IsRecordingOf bytes state
  pub count : length state.journal ≡ entries

-- The verdict on these bytes.
abbrev pub Judged : List ℕ → Verdict → Type 0
Judged bytes (verdict.Legal entries) = IsRecording bytes entries
Judged bytes (verdict.Wrong line reason) = IsWrong (lines_of bytes) line reason

-- What loading the bytes gives.
abbrev pub IsLoaded : List ℕ → Loaded → Type 0
IsLoaded bytes (loaded.Legal state) = IsRecordingOf bytes state
IsLoaded bytes (loaded.Wrong line reason) = IsWrong (lines_of bytes) line reason

-- ---- beginnings of recordings

-- The bytes begin a recording. They end after the number of entries or after one of the entries.
pub record IsBeginningOf (bytes : List ℕ) (state : State) : Type 0 where
  pub is_journal : IsJournalOf state.encounter state.journal
  pub count : ℕ
  pub told : count ≤ MOST_TOLD
  pub within : length state.journal ≤ count
  pub bytes_are : bytes ≡ joined (head_line ∷ (canonical_lines state.encounter ++ journal_line count ∷ entry_lines (length state.encounter.crafts) state.journal))

-- What is wrong after the number of entries of a beginning.
pub data IsWrongBeginning (e : Parts) (count : ℕ) (lines : List (List ℕ)) : ℕ → Reason → Type 0 where
  wrong_line : {entries : ℕ} {reason : Reason} → StopsAt (air_of e) lines entries reason → entries < count → IsWrongBeginning e count lines (first_entry e + entries) reason
  too_many : {journal : List Entry} {line : List ℕ} {rest : List (List ℕ)} → Replays (air_of e) lines journal (line ∷ rest) → length journal ≡ count → IsWrongBeginning e count lines (first_entry e + count) Report

pub data IsWrongInPart (lines : List (List ℕ)) : ℕ → Reason → Type 0 where
  at_opening_of_part : {line : ℕ} {reason : Reason} → IsWrongOpening lines line reason → IsWrongInPart lines line reason
  after_opening_of_part : {e : Parts} {count line : ℕ} {rest : List (List ℕ)} {reason : Reason} → Opens e count lines rest → IsWrongBeginning e count rest line reason → IsWrongInPart lines line reason

-- What loading a beginning gives.
abbrev pub IsPartLoaded : List ℕ → Loaded → Type 0
IsPartLoaded bytes (loaded.Legal state) = IsBeginningOf bytes state
IsPartLoaded bytes (loaded.Wrong line reason) = IsWrongInPart (lines_of bytes) line reason
