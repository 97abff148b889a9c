-- Fields of a single byte.
use Rattle.std.proofs.Common.{◌≡◌, ◌≢◌, ℕ, ◌+◌, ◌<◌, ◌^◌, List, [], ◌∷◌, Option, Some, None, get_or, drop, refl, sym, ap, ◌∙◌, arith}
use Rattle.std.specs.Prelude.{MatchOption}
use Rattle.std.proofs.lemmas.Fmt.{decimal_digit}
use Rattle.std.specs.Fmt.{decimal}
use Rattle.std.specs.List.{join_with_byte}
use Rattle.std.proofs.lemmas.List.Splits.{join_with_byte-slice_split}
use Rattle.acas_text.proofs.Decimals.{decimal-digit, decimal-value}
use Rattle.acas_text.specs.Decimal.{IsWithin, SpellsWithin}
use Rattle.rec_audit.specs.Fields.{BeginsShort, fields_of}
use Rattle.rec_text.proofs.Splits.{split-field}

-- A text that begins with one.
pub short-first : (text : List ℕ) → BeginsShort text → fields_of text ≡ (get_or text 0 0 ∷ []) ∷ fields_of (drop 2 text)
short-first [] b = absurd (omega (arith, b.long))
short-first (c ∷ []) b = absurd (omega (arith, b.long))
short-first (c ∷ d ∷ rest) b = ap (λ (x : ℕ). fields_of (c ∷ x ∷ rest)) b.comma ∙ split-field (c ∷ []) rest (b.field, tt)

-- A text whose first field is one.
pub first-short : (text : List ℕ) (c : ℕ) (next : List ℕ) (rest : List (List ℕ)) → c ≢ 44 → fields_of text ≡ (c ∷ []) ∷ next ∷ rest → BeginsShort text
first-short text c next rest field e =
    let all : text ≡ c ∷ 44 ∷ join_with_byte 44 (next ∷ rest) = sym (join_with_byte-slice_split 44 text) ∙ ap (λ (fields : List (List ℕ)). join_with_byte 44 fields) e in
    rw all (record { long = omega arith; field = field; comma = refl })

-- What a field spells.
pub spelled-first : (fields rest : List (List ℕ)) (text : List ℕ) (low high : ℕ) (r : Option ℕ) → fields ≡ text ∷ rest → SpellsWithin low high text r →
    MatchOption r ((n : ℕ) (after : List (List ℕ)) → IsWithin low high n → fields ≢ decimal n ∷ after) (λ n. IsWithin low high n × (fields ≡ decimal n ∷ rest))
spelled-first fields rest text low high None is h = λ n after within e. h n within (ap (λ (t : List (List ℕ)). get_or t 0 []) (sym e ∙ is))
spelled-first fields rest text low high (Some n) is h = (h.0, is ∙ ap (λ t. t ∷ rest) h.1)

-- The number that one byte spells.
pub one-digit : (n glyph : ℕ) → n < 2 ^ 64 → decimal n ≡ glyph ∷ [] → (n < 10) × (48 + n ≡ glyph)
one-digit n glyph h e =
    let value = decimal-value n (glyph ∷ []) h e in
    let digit = decimal-digit n 0 (glyph ∷ []) h e (omega arith) in
    let few : n < 10 = omega (arith, value, digit) in
    (few, ap (λ t. get_or t 0 0) (sym (decimal_digit n few) ∙ e))
