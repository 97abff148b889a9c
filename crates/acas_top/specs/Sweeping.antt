-- A sweep: the encounters of a row of numbers, and their counts.
use Rattle.std.specs.Prelude.{◌≡◌, ℕ, List, [], ◌∷◌, ◌++◌, length, map, slice_index_or, codes}
use Rattle.std.specs.Fmt.{decimal}
use Rattle.std.specs.List.{AllZip, range_with_len}
use Rattle.acas_base.specs.declared.setting.Profile.{Profile}
use Rattle.acas_lines.specs.Lines.{count_line, joined}
use Rattle.acas_top.specs.Counted.{AreSerial, counts_text}
use Rattle.enc_gen.specs.Generated.{generated}
use Rattle.sweep.specs.Numbers.{number_at, numbers}
use Rattle.sweep.specs.Totals.{total}
use Rattle.sweep.specs.declared.counts.Counts.{Counts}

-- For which profile the encounters are made, and how many aircraft and cycles each has.
pub record Sizes : Type 0 where
  pub profile : Profile
  pub crafts : ℕ
  pub cycles : ℕ

-- The counts of a number are those of the serial run of the encounter that is made from it.
abbrev pub HasCounted : Sizes → ℕ → Counts → Type 0
HasCounted sizes number counts = AreSerial (generated sizes.profile number sizes.crafts sizes.cycles) counts

-- ---- the text

abbrev pub sweep_count_line : ℕ → List ℕ
sweep_count_line count = count_line (codes "sweep") count

abbrev pub number_line : ℕ → Counts → List ℕ
number_line number counts = codes "e," ++ decimal number ++ codes "," ++ counts_text counts

abbrev pub total_line : Counts → List ℕ
total_line counts = codes "total," ++ counts_text counts

abbrev pub nothing : Counts
nothing = record { commits = 0; sends = 0; takes = 0; lines = 0 }

-- The line of the number at a place, counted from 0.
abbrev pub line_at : ℕ → List Counts → ℕ → List ℕ
line_at first list at = number_line (number_at first at) (slice_index_or list at nothing)

abbrev pub number_lines : ℕ → List Counts → List (List ℕ)
number_lines first list = map (line_at first list) (range_with_len 0 (length list))

-- First a line with how many numbers there are, then a line for each number, in order, and then a line with the sums.
abbrev pub swept_lines : ℕ → ℕ → List Counts → Counts → List (List ℕ)
swept_lines first count list sums = sweep_count_line count ∷ (number_lines first list ++ total_line sums ∷ [])

-- The text is that of the sweep over `count` numbers, from `number` on.
pub record Sweeps (sizes : Sizes) (number count : ℕ) (text : List ℕ) : Type 0 where
  pub list : List Counts
  pub counted : AllZip (HasCounted sizes) (numbers number count) list
  pub text_is : text ≡ joined (swept_lines number count list (total list))
