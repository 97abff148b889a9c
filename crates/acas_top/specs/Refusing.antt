-- The line of a refusal.
use Rattle.std.specs.Prelude.{◌≡◌, ℕ, List, ◌++◌, Err, codes}
use Rattle.std.specs.Fmt.{decimal}
use Rattle.enc_file.specs.Codes.{code_number}
use Rattle.enc_file.specs.Reading.{reading_of}
use Rattle.enc_file.specs.declared.refusal.Refusal.{Refusal}

-- The line of a refusal: the number of the record, and the number of the code.
abbrev pub refused_line : ℕ → ℕ → List ℕ
refused_line at code = codes "refused," ++ decimal at ++ codes "," ++ decimal code ++ codes "\n"

-- The bytes say no encounter, and the text is the line of the refusal.
pub record Refuses (bytes text : List ℕ) : Type 0 where
  pub refusal : Refusal
  pub is : reading_of bytes ≡ Err refusal
  pub text_is : text ≡ refused_line refusal.at (code_number refusal.code)
