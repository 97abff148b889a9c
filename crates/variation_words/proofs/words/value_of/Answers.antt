use Rattle.std.proofs.Common.{◌≡◌, ◌∙◌, ℕ, ℤ, negsuc, pos, ◌<◌, ◌≤◌, ◌^◌, List, ap, arith, sym}
use lib.Signed.{mag}
use Rattle.std.specs.Fmt.{signed_decimal}
use Rattle.std.specs.Prelude.{unsigned_abs}
use Rattle.std.proofs.lemmas.Fmt.{signed_decimal_injective}
use Rattle.std.proofs.lemmas.Int.{ints}
use Rattle.variation_words.proofs.words.value_of.Goals as goal

mag-plain : (n : ℤ) → unsigned_abs n < 10 ^ 10 → mag n < 2 ^ 63
mag-plain (pos n) few = omega arith
mag-plain (negsuc n) few = omega arith

-- A word that spells a number out of the range spells none in it.
spells-another : (word : List ℕ) (value n : ℤ) → word ≡ signed_decimal value → unsigned_abs value < 10 ^ 10 → 2000000 < unsigned_abs value → unsigned_abs n ≤ 2000000 → word ≡ signed_decimal n → ⊥
spells-another word value n is few more small also =
    let same = signed_decimal_injective value n (mag-plain value few) (mag-plain n (omega (arith, ints, small))) (sym is ∙ also) in
    omega (arith, ints, ap unsigned_abs same, more, small)

pub returns-then-value-ltminus2000000-clause-none : goal.returns-then-value-ltminus2000000-clause-none
returns-then-value-ltminus2000000-clause-none c =
    λ n small also.
    spells-another c.args.word.now c.in_ok-value.value n (sym c.as_bytes.ensures.value ∙ c.in_ok-value.ensures.some.0) c.in_ok-value.ensures.some.1 (omega (arith, ints)) small also

pub returns-then-value-gt2000000-clause-none : goal.returns-then-value-gt2000000-clause-none
returns-then-value-gt2000000-clause-none c =
    λ n small also.
    spells-another c.args.word.now c.in_ok-value.value n (sym c.as_bytes.ensures.value ∙ c.in_ok-value.ensures.some.0) c.in_ok-value.ensures.some.1 (omega (arith, ints)) small also
