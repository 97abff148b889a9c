-- What `many` answers: a line for each of many encounters, which stand one after the other; or how many there are.
use Rattle.std.specs.Prelude.{◌≡◌, ℕ, ◌+◌, ◌<◌, ◌≤◌, Bool, true, false, Err, IfSome, List, [], ◌∷◌, ◌++◌, codes, count_by, length, map, slice_get, slice_index_or}
use Rattle.std.specs.Fmt.{decimal}
use Rattle.std.specs.List.{AllZip, range_with_len}
use Rattle.acas_base.specs.Encounter.{Parts}
use Rattle.acas_base.specs.declared.entry.Entry.{Entry}
use Rattle.acas_lines.specs.Lines.{count_line, joined}
use Rattle.acas_top.specs.declared.many.PieceRun.{PieceRun}
use Rattle.acas_top.specs.declared.many.PieceRun.TheVariants.{Faulty, Played}
use Rattle.acas_top.specs.declared.many_text.Sums.{Sums}
use Rattle.air_journal.specs.Airs.{air_of}
use Rattle.air_rules.specs.Serial.{IsSerial}
use Rattle.enc_file.specs.Codes.{code_number}
use Rattle.enc_file.specs.Reading.{Says, reading_of}
use Rattle.enc_file.specs.declared.refusal.Refusal.{Refusal}
use Rattle.outcomes.specs.Lines.{piece_text}
use Rattle.outcomes.specs.Outcomes.{IsOutcome}
use Rattle.outcomes.specs.Totals.{totals_of}
use Rattle.outcomes.specs.declared.outcome.Outcome.{Outcome}
use Rattle.pieces.specs.Pieces.{AreCut}

-- ---- one piece

-- The piece says an encounter, and this is what its serial run comes to.
pub record IsPlayedPiece (piece : List ℕ) (outcome : Outcome) : Type 0 where
  pub encounter : Parts
  pub says : Says piece encounter
  pub journal : List Entry
  pub serial : IsSerial (air_of encounter) journal
  pub comes_to : IsOutcome encounter journal outcome

-- The piece says no encounter: this record of it is refused, counted from 1 in the piece, for the code with this number.
pub record IsFaultyPiece (piece : List ℕ) (at code : ℕ) : Type 0 where
  pub refusal : Refusal
  pub is : reading_of piece ≡ Err refusal
  pub at_is : at ≡ refusal.at
  pub code_is : code ≡ code_number refusal.code

-- This is what a piece comes to.
abbrev pub IsRunOf : List ℕ → PieceRun → Type 0
IsRunOf piece (Played outcome) = IsPlayedPiece piece outcome
IsRunOf piece (Faulty at code) = IsFaultyPiece piece at code

-- This is what the piece at a place comes to, counted from 0.
abbrev pub IsRunAt : List (List ℕ) → ℕ → PieceRun → Type 0
IsRunAt pieces place it = IfSome (slice_get pieces place) (λ piece. IsRunOf piece it)

-- ---- the text

-- The line of a piece, with its number, counted from 1.
abbrev pub piece_line : ℕ → PieceRun → List ℕ
piece_line number (Played outcome) = codes "v," ++ decimal number ++ piece_text outcome
piece_line number (Faulty at code) = codes "r," ++ decimal number ++ 44 ∷ decimal at ++ 44 ∷ decimal code ++ codes "\n"

-- The line of the piece at a place, counted from 0.
abbrev pub piece_line_at : List PieceRun → ℕ → List ℕ
piece_line_at list place = piece_line (place + 1) (slice_index_or list place (Faulty 0 0))

abbrev pub piece_lines : List PieceRun → List (List ℕ)
piece_lines list = map (piece_line_at list) (range_with_len 0 (length list))

-- What the pieces come to that say encounters.
abbrev pub played_in : List PieceRun → List Outcome
played_in [] = []
played_in (Played outcome ∷ list) = outcome ∷ played_in list
played_in (Faulty at code ∷ list) = played_in list

abbrev pub is_faulty : PieceRun → Bool
is_faulty (Played outcome) = false
is_faulty (Faulty at code) = true

-- How many pieces are refused, and how many of the others have an advisory, a turn, a reversal and equal senses.
abbrev pub sums_of : List PieceRun → Sums
sums_of list = record { refused = count_by is_faulty list; totals = totals_of (played_in list) }

abbrev pub sums_line : ℕ → Sums → List ℕ
sums_line pieces sums =
    codes "total" ++ 44 ∷ decimal pieces ++ 44 ∷ decimal sums.refused ++ 44 ∷ decimal sums.totals.advised ++ 44 ∷ decimal sums.totals.turned ++ 44 ∷ decimal sums.totals.reversed ++ 44 ∷ decimal sums.totals.equal ++ codes "\n"

-- First a line with how many pieces there are, then a line for each, in order, and then a line with the sums.
abbrev pub many_lines : List PieceRun → List (List ℕ)
many_lines list = count_line (codes "many") (length list) ∷ (piece_lines list ++ sums_line (length list) (sums_of list) ∷ [])

-- ---- the answer

-- The text tells what each piece of the bytes comes to.
pub record TellsMany (bytes text : List ℕ) : Type 0 where
  pub pieces : List (List ℕ)
  pub cut : AreCut pieces bytes
  pub few : length pieces ≤ 4096
  pub list : List PieceRun
  pub runs : AllZip IsRunOf pieces list
  pub text_is : text ≡ joined (many_lines list)

-- The bytes have more pieces than are played, and the text says how many.
pub record HasManyMore (bytes text : List ℕ) : Type 0 where
  pub pieces : List (List ℕ)
  pub cut : AreCut pieces bytes
  pub more : 4096 < length pieces
  pub text_is : text ≡ count_line (codes "pieces") (length pieces)
