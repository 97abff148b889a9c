-- What a text of tracks says: an encounter, or why it is refused.
use Rattle.std.specs.Prelude.{◌≡◌, ℕ, ◌+◌, true, List, [], Result, MatchResult}
use Rattle.acas_base.specs.Encounter.{Parts}
use Rattle.enc_file.specs.Earlier.{encounter_by, has_ended}
use Rattle.enc_file.specs.Records.{records_of}
use Rattle.track_file.specs.Along.{FliesAlong}
use Rattle.track_text.specs.Conditions.{ArePassed, IsRefused}
use Rattle.track_text.specs.Earlier.{shared_of, tracks_of}
use Rattle.track_text.specs.declared.record.TrackRecord.{TrackRecord}
use Rattle.track_text.specs.declared.refusal.Fault.{Fault}
use Rattle.track_text.specs.declared.refusal.ReadError.{ReadError}
use Rattle.track_text.specs.declared.refusal.ReadError.TheVariants.{Refused, OutOfMemory}
use Rattle.track_text.specs.declared.refusal.Refusal.{Refusal}

-- The refusal of the record after the first `count` ones.
abbrev pub refusal_after : ℕ → Fault → Refusal
refusal_after count why = record { at = count + 1; fault = why }

-- The records have come to their end, and this is their encounter. It is what they say of an encounter, but its
-- aircraft fly along their tracks.
pub record IsMade (earlier : List TrackRecord) (e : Parts) : Type 0 where
  pub ended : has_ended (shared_of earlier) ≡ true
  pub flies : FliesAlong e (encounter_by (shared_of earlier)) (tracks_of earlier)

-- A text says an encounter. Its records have no fault, and this is what they make.
pub record Says (text : List ℕ) (e : Parts) : Type 0 where
  pub earlier : List TrackRecord
  pub passed : ArePassed [] (records_of text) earlier
  pub made : IsMade earlier e

-- The record after the first `count` ones is refused for a fault of which P holds. Memory may be wanting at any time.
abbrev pub Refuses : ℕ → (Fault → Type 0) → ReadError → Type 0
Refuses count P (Refused refusal) = (why : Fault) × P why × (refusal ≡ refusal_after count why)
Refuses count P OutOfMemory = Unit {0}

-- The text is refused so. Memory may be wanting at any time.
abbrev pub Explains : List ℕ → ReadError → Type 0
Explains text (Refused refusal) = IsRefused (records_of text) refusal
Explains text OutOfMemory = Unit {0}

-- What was read is what the text says.
abbrev pub IsReading : List ℕ → Result Parts ReadError → Type 0
IsReading text result = MatchResult result (Says text) (Explains text)
