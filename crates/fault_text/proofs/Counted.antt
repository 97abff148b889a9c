-- How many records were counted where all lines were cut off.
use Rattle.std.proofs.Common.{◌≡◌, ◌∙◌, ℕ, true, false, List, [], ◌∷◌, ◌++◌, length, map, refl, ap, arith, eqb-true}
use Rattle.std.specs.Prelude.{◌==◌}
use Rattle.std.proofs.lemmas.List.{append-nil}
use Rattle.enc_file.specs.Records.{records_of}
use Rattle.fault_text.specs.Lines.{fields_in, file_lines, lines_after, written}
use Rattle.fault_text.proofs.Passing.{map-size}
use Rattle.fault_text.proofs.RecordLines.{records-are-lines}

none-left : (rest : List ℕ) → (length rest == 0) ≡ true → lines_after false rest ≡ []
none-left [] e = refl
none-left (c ∷ cs) e = absurd (omega (arith, eqb-true (length (c ∷ cs)) 0 e))

pub all-counted : (text rest : List ℕ) (before : List (List ℕ)) (count : ℕ) → file_lines text ≡ before ++ lines_after false rest → (length rest == 0) ≡ true → count ≡ length (written before) → count ≡ length (records_of text)
all-counted text rest before count whole e is =
    let lines : file_lines text ≡ before = whole ∙ ap (λ t. before ++ t) (none-left rest e) ∙ append-nil before in
    let size = map-size (written before) in
    let rows : length (records_of text) ≡ length (map fields_in (written before)) = ap length (records-are-lines text) ∙ ap (λ t. length (map fields_in (written t))) lines in
    omega (arith, is, size, rows)
