-- What the reader keeps of the records so far.
use Rattle.std.specs.Prelude.{Vec, ◌≡◌, ◌≤◌, ℕ, ◌<◌, Bool, true, false, if◌then◌else◌, List, [], ◌∷◌, All, length, get_or, map, replicate, is_none, Option, Some, None, Result, Ok, MatchOption, MatchResult}
use Rattle.std.specs.Global.{Global}
use Rattle.acas_base.specs.Encounter.{Parts}
use Rattle.acas_base.specs.declared.TheConstants.{CRAFTS}
use Rattle.enc_file.specs.Earlier.{crafts_of, has_ended, index_of, version_of}
use Rattle.enc_file.specs.Faults as enc
use Rattle.enc_file.specs.Faults.{holds, miscounts}
use Rattle.enc_file.specs.Tables.{Holds}
use Rattle.enc_file.specs.WellRead.{IsOfFormat, IsSaid}
use Rattle.enc_file.specs.declared.record.Record.{Record}
use Rattle.enc_file.specs.declared.record.Record.TheVariants as said
use Rattle.enc_file.specs.declared.refusal.Code.{Code}
use Rattle.enc_file.specs.declared.refusal.Code.TheVariants as code
use Rattle.track_file.specs.Along.{CanBeFlown, IsFaultOf, craft_at}
use Rattle.track_file.specs.Track.{IsPoint, IsTrack}
use Rattle.track_file.specs.declared.track.Point.{Point}
use Rattle.track_text.specs.Conditions.{HasNoFault, IsLowestFault, address_at, has_point_since, said_by}
use Rattle.track_text.specs.Earlier.{cycles_of, is_end, shared_of, track_of, tracks_of}
use Rattle.track_text.specs.Reading.{IsMade, Refuses}
use Rattle.track_text.specs.declared.record.TrackRecord.{TrackRecord}
use Rattle.track_text.specs.declared.record.TrackRecord.TheVariants.{Shared, At}
use Rattle.track_text.specs.declared.refusal.Fault.{Fault}
use Rattle.track_text.specs.declared.refusal.Fault.TheVariants.{Text, Track}
use Rattle.track_text.specs.declared.refusal.ReadError.{ReadError}
use Rattle.track_text.specs.declared.tables.TrackTables.{TrackTables}

-- The fields that a record says by itself are in their ranges, and it is of a kind that this version of the encounter
-- has.
abbrev pub IsTrackSaid : ℕ → TrackRecord → Type 0
IsTrackSaid version (Shared now) = IsSaid now × IsOfFormat version now
IsTrackSaid version (At address point) = IsPoint point

-- What is wrong with a record after those before it, of what can be wrong in the text of an encounter, too. Of several
-- codes it is the lowest.
abbrev pub shared_fault : List Record → Record → Bool → Option Code
shared_fault earlier now true = if miscounts earlier said.End then Some code.Count else None
shared_fault earlier now false = enc.fault_of earlier now

abbrev pub fault_of : List TrackRecord → TrackRecord → Option Code
fault_of earlier (Shared now) = shared_fault (shared_of earlier) now (is_end now)
fault_of earlier (At address point) =
    if has_point_since earlier address point.ms then Some code.Repeat else
    if is_none (index_of (crafts_of (shared_of earlier)) address) then Some code.Unknown else None

abbrev pub ends : TrackRecord → Bool
ends (Shared now) = is_end now
ends (At address point) = false

-- A record has this fault after those before it, and none with a lower number.
abbrev pub IsFirstFault : List TrackRecord → TrackRecord → Fault → Type 0
IsFirstFault earlier now (Text why) = fault_of earlier now ≡ Some why
IsFirstFault earlier now (Track fault address) =
    (fault_of earlier now ≡ None) × (ends now ≡ true) × IsFaultOf (cycles_of earlier) (tracks_of earlier) fault × (address_at (crafts_of (shared_of earlier)) (craft_at fault) ≡ Some address)

-- It has none.
pub record IsFine (earlier : List TrackRecord) (now : TrackRecord) : Type 0 where
  pub sound : fault_of earlier now ≡ None
  pub flown : ends now ≡ true → CanBeFlown (cycles_of earlier) (tracks_of earlier)

-- Room for the tracks of all aircraft that there may be, and no point.
abbrev pub AreBare : List (Vec Point Global) → Type 0
AreBare tracks = map (λ points. points.items) tracks ≡ replicate CRAFTS []

-- The tables keep what these records give, up to their end.
pub record KeepsTracks (earlier : List TrackRecord) (t : TrackTables) : Type 0 where
  pub count : t.count ≡ length earlier
  pub unended : has_ended (shared_of earlier) ≡ false
  pub version : t.version ≡ version_of (shared_of earlier)
  pub tables : Holds (shared_of earlier) t.tables
  pub many : length t.tracks.items ≡ CRAFTS
  pub points : (craft : ℕ) (d : Vec Point Global) → craft < CRAFTS → (get_or t.tracks.items craft d).items ≡ track_of craft earlier
  pub rising : All (λ points. IsTrack points.items) t.tracks.items
  pub unmade : t.made ≡ None
  pub begun : 1 ≤ length earlier → 1 ≤ length (shared_of earlier)

abbrev pub IsKept : TrackTables → Type 0
IsKept t = (earlier : List TrackRecord) × KeepsTracks earlier t

-- There is a header, and it is the first of the records of an encounter.
pub record AreBegun (earlier : List TrackRecord) : Type 0 where
  pub some : 1 ≤ length (shared_of earlier)

-- Once the end was read, the encounter is made.
pub record HasMade (earlier : List TrackRecord) (t : TrackTables) (e : Parts) : Type 0 where
  pub count : t.count ≡ length earlier
  pub made : IsMade earlier e

-- The tables hold what these records give.
abbrev pub HoldsTracks : List TrackRecord → TrackTables → Type 0
HoldsTracks earlier t = MatchOption t.made (KeepsTracks earlier t) (HasMade earlier t)

abbrev pub IsHeld : TrackTables → Type 0
IsHeld t = (earlier : List TrackRecord) × HoldsTracks earlier t

-- The record was added, or it is refused.
abbrev pub Adds : {T : Type 0} → List TrackRecord → TrackRecord → TrackTables → Result T ReadError → Type 0
Adds earlier now t result = MatchResult result (λ _. IsFine earlier now × HoldsTracks (now ∷ earlier) t) (Refuses (length earlier) (IsFirstFault earlier now))

-- The record that these fields say was added, or it is refused.
abbrev pub Takes : {T : Type 0} → List TrackRecord → List (List ℕ) → TrackTables → Result T ReadError → Type 0
Takes earlier fields t result =
    MatchResult result (λ _. HasNoFault earlier (Some fields) × ((now : TrackRecord) × (said_by earlier fields ≡ Ok now) × HoldsTracks (now ∷ earlier) t))
    (Refuses (length earlier) (IsLowestFault earlier (Some fields)))
