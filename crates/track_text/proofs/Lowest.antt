-- The lowest of the faults of a record.
use Rattle.std.proofs.Common.{◌≡◌, ℕ, ◌<◌, List, Option, Some, None, arith}
use Rattle.std.proofs.lemmas.Bool.{both_ways}
use Rattle.enc_file.specs.Codes.{code_number}
use Rattle.enc_file.specs.Spelling.{end_record}
use Rattle.enc_file.specs.declared.refusal.Code.{Code}
use Rattle.track_file.specs.Along.{IsFaultOf, craft_at}
use Rattle.track_file.specs.declared.along.TrackFault.{TrackFault}
use Rattle.track_file.specs.declared.along.TrackFault.TheVariants.{Cover, Rate}
use Rattle.track_text.specs.Codes.{fault_number, track_number}
use Rattle.enc_file.specs.Earlier.{crafts_of}
use Rattle.track_text.specs.Conditions.{HasFault, HasNoFault, IsLowestFault, address_at, has_text_fault}
use Rattle.track_text.specs.Earlier.{cycles_of, shared_of, tracks_of}
use Rattle.track_text.specs.declared.record.TrackRecord.{TrackRecord}
use Rattle.track_text.specs.declared.refusal.Fault.{Fault}
use Rattle.track_text.specs.declared.refusal.Fault.TheVariants.{Text, Track}
use Rattle.enc_file.proofs.LowestCode.{lowest-none, lowest-some, lowest_of, number-within}

pub track-late : (fault : TrackFault) → 12 < track_number fault
track-late (Cover craft) = omega arith
track-late (Rate craft cycle) = omega arith

-- The lowest code of a text is the lowest fault.
pub lowest-text : (earlier : List TrackRecord) (next : Option (List (List ℕ))) (why : Code) → lowest_of (has_text_fault earlier next) ≡ Some why → IsLowestFault earlier next (Text why)
lowest-text earlier next why is = record { faulty = (lowest-some (has_text_fault earlier next) why is).0; lowest = lowest } where
  lowest : (other : Fault) → fault_number other < code_number why → HasFault earlier next other → ⊥
  lowest (Text other) less has = both_ways _ ((lowest-some (has_text_fault earlier next) why is).1 other less) has
  lowest (Track other address) less has = omega (arith, less, track-late other, (number-within why).1)

-- The first track that is wrong is the lowest fault, where none is as in the text of an encounter.
pub lowest-track : (earlier : List TrackRecord) (next : Option (List (List ℕ))) (fault : TrackFault) (address : ℕ) → lowest_of (has_text_fault earlier next) ≡ None → next ≡ Some end_record
    → IsFaultOf (cycles_of earlier) (tracks_of earlier) fault → address_at (crafts_of (shared_of earlier)) (craft_at fault) ≡ Some address → IsLowestFault earlier next (Track fault address)
lowest-track earlier next fault address none end wrong named = record { faulty = (end, wrong, named); lowest = λ other less has. lowest other fault less has wrong } where
  apart : (craft of cycle : ℕ) → IsFaultOf (cycles_of earlier) (tracks_of earlier) (Cover craft) → IsFaultOf (cycles_of earlier) (tracks_of earlier) (Rate of cycle) → ⊥
  apart craft of cycle uncovered fast = both_ways _ uncovered.1 (fast.0 craft _ uncovered.0)

  lowest : (other : Fault) (fault : TrackFault) → fault_number other < track_number fault → HasFault earlier next other → IsFaultOf (cycles_of earlier) (tracks_of earlier) fault → ⊥
  lowest (Text other) fault less has wrong = both_ways _ (lowest-none (has_text_fault earlier next) none other) has
  lowest (Track (Cover craft) named) (Cover other) less has wrong = omega (arith, less)
  lowest (Track (Cover craft) named) (Rate of cycle) less has wrong = apart craft of cycle has.1 wrong
  lowest (Track (Rate craft cycle) named) (Cover other) less has wrong = omega (arith, less)
  lowest (Track (Rate craft cycle) named) (Rate of other) less has wrong = omega (arith, less)

-- There is no fault.
pub faultless : (earlier : List TrackRecord) (next : Option (List (List ℕ))) → lowest_of (has_text_fault earlier next) ≡ None
    → ((fault : TrackFault) → next ≡ Some end_record → IsFaultOf (cycles_of earlier) (tracks_of earlier) fault → ⊥) → HasNoFault earlier next
faultless earlier next none flown (Text why) has = both_ways _ (lowest-none (has_text_fault earlier next) none why) has
faultless earlier next none flown (Track fault address) has = flown fault has.0 has.1
