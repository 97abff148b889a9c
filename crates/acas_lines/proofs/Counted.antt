-- Lines that are counted.
use Rattle.std.proofs.Common.{◌≡◌, ℕ, ◌+◌, ◌-◌, ◌<◌, ◌^◌, List, [], ◌∷◌, length, ap, ◌∙◌, arith, min}
use Rattle.acas_lines.specs.Counting.{counted}

-- Where 32 bits can tell them, all are counted.
pub counted-few : (count : ℕ) (lines : List (List ℕ)) → count + length lines < 2 ^ 32 → counted count lines ≡ count + length lines
counted-few count [] few = omega arith
counted-few count (line ∷ rest) few =
    let next : min (count + 1) (2 ^ 32 - 1) ≡ count + 1 = omega arith in
    ap (λ (n : ℕ). counted n rest) next ∙ counted-few (count + 1) rest (omega arith) ∙ (omega arith)
