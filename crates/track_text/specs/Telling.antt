-- What is told of a text of tracks that is refused: the line of the file, and what is wrong with the record there.
use Rattle.std.specs.Prelude.{◌≡◌, ℕ, List}
use Rattle.fault_text.specs.Lines.{Stands, file_lines}
use Rattle.track_text.specs.Sentences.{sentence}
use Rattle.track_text.specs.Told.{Tells}
use Rattle.track_text.specs.declared.refusal.Refusal.{Refusal}
use Rattle.track_text.specs.declared.why.TrackWhy.{TrackWhy}

-- It is the sentence of what is wrong with the refused record, in the line where this stands. Where a record is missing,
-- that line is empty, and its number is that of the line behind the last record.
pub record IsExplained (text : List ℕ) (refusal : Refusal) (told : List ℕ) : Type 0 where
  pub number : ℕ
  pub line : List ℕ
  pub place : Stands (file_lines text) refusal.at number line
  pub why : TrackWhy
  pub tells : Tells text refusal line why
  pub told_is : told ≡ sentence number why
