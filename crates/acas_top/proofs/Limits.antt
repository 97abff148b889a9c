-- Limits, and what is longer.
use Rattle.std.proofs.Common.{◌≡◌, ℕ, ◌<◌, ◌≤◌, Bool, true, false, List, length, Option, Some, None, refl, ap, subst, arith, length-append}
use Rattle.std.specs.Prelude.{if◌then◌else◌}
use Rattle.acas_io.specs.Stream.{Took, TookAll}
use Rattle.acas_top.specs.Ends.{IsTooLong}
use Rattle.acas_top.specs.Words.{greatest, most}
use Rattle.acas_top.specs.declared.words.Limit.{Limit}
use Rattle.acas_top.specs.declared.words.Limit.TheVariants as limits
use Rattle.acas_top.specs.declared.words.TheConstants.{ENCOUNTER_BYTES, RECORDING_BYTES}
use Rattle.acas_top.specs.Answers.{read_as}
use Rattle.acas_top.specs.declared.explaining.Subject.TheVariants as subjects
use Rattle.fault_text.specs.Lines.{begins_recording, begins_tracks}

pub most-within : (limit : Limit) (bytes : List ℕ) → most limit bytes ≤ greatest limit
most-within limits.Encounter bytes = omega arith
most-within limits.Recording bytes = omega arith
most-within limits.Either bytes = by (begins_recording bytes) where
  by : (b : Bool) → (if b then RECORDING_BYTES else ENCOUNTER_BYTES) ≤ RECORDING_BYTES
  by true = omega arith
  by false = omega arith

-- More bytes were left than these may be.
pub left-long : (limit : Limit) (old new : Option (List ℕ)) (bytes : List ℕ) → TookAll old new bytes → most limit bytes < length bytes → IsTooLong (Some limit) old
left-long limit None new bytes took long = tt
left-long limit (Some xs) new bytes took long = subst (λ (t : List ℕ). most limit t < length t) took.0 long

-- More bytes were given than any may be.
pub took-long : (limit : Limit) (old new : Option (List ℕ)) → Took (λ n. greatest limit < n) old new → IsTooLong (Some limit) old
took-long limit None new took = tt
took-long limit (Some xs) None took = absurd took.1
took-long limit (Some xs) (Some ys) took = omega (arith, most-within limit xs, took.2, ap length took.1, length-append took.0 ys)

-- How much may be read, by what it is read as.
recording-by : (b t : Bool) → (if b then subjects.Recording else if t then subjects.Tracks else subjects.Encounter) ≡ subjects.Recording → (if b then RECORDING_BYTES else ENCOUNTER_BYTES) ≡ RECORDING_BYTES
recording-by true t is = refl
recording-by false true is = absurd (cc is)
recording-by false false is = absurd (cc is)

tracks-by : (b t : Bool) → (if b then subjects.Recording else if t then subjects.Tracks else subjects.Encounter) ≡ subjects.Tracks → (if b then RECORDING_BYTES else ENCOUNTER_BYTES) ≡ ENCOUNTER_BYTES
tracks-by true t is = absurd (cc is)
tracks-by false t is = refl

encounter-by : (b t : Bool) → (if b then subjects.Recording else if t then subjects.Tracks else subjects.Encounter) ≡ subjects.Encounter → (if b then RECORDING_BYTES else ENCOUNTER_BYTES) ≡ ENCOUNTER_BYTES
encounter-by true t is = absurd (cc is)
encounter-by false t is = refl

pub recording-most : (bytes : List ℕ) → read_as bytes ≡ subjects.Recording → most limits.Either bytes ≡ RECORDING_BYTES
recording-most bytes is = recording-by (begins_recording bytes) (begins_tracks bytes) is

pub tracks-most : (bytes : List ℕ) → read_as bytes ≡ subjects.Tracks → most limits.Either bytes ≡ ENCOUNTER_BYTES
tracks-most bytes is = tracks-by (begins_recording bytes) (begins_tracks bytes) is

pub encounter-most : (bytes : List ℕ) → read_as bytes ≡ subjects.Encounter → most limits.Either bytes ≡ ENCOUNTER_BYTES
encounter-most bytes is = encounter-by (begins_recording bytes) (begins_tracks bytes) is
