-- Digits that are written and read from the first one on.
use Rattle.std.proofs.Common.{◌≡◌, ℕ, zero, suc, ◌+◌, ◌-◌, ◌*◌, ◌/◌, ◌%◌, ◌^◌, ◌<◌, true, List, [], ◌∷◌, ◌++◌, length, get_or, refl, sym, ◌∙◌, arith, length-append, pow-suc, inl, inr, Bool, T, eqb, eqb→eq, eq-zero-or-pos, ◌&&◌, append_assoc, drop, set, add-one}
use Rattle.std.proofs.Math.Nat.{pow-le-pow_right}
use Rattle.std.proofs.Math.Seq.{get_or-append_seam}
use Rattle.std.proofs.lemmas.Bool.{cases_lt}
use Rattle.std.proofs.lemmas.List.{drop-set, get_or_append_left}
use lib.Ieee.Fits.{and_l, and_r}
use Rattle.std.specs.Fmt.{digit_glyph}
use Rattle.std.specs.Char.{digit_value}
use Rattle.std.specs.Str.Parse.{digits_value}
use Rattle.std.proofs.lemmas.Int.Digits.{digits_value_push}
use Rattle.acas_text.specs.Hex.{hex}
use Rattle.acas_text.specs.declared.hexadecimal.TheConstants.{DIGITS}

-- There are as many digits as were asked for.
pub length-hex : (k n : ℕ) → length (hex k n) ≡ k
unfolding hex
length-hex zero n = refl
length-hex (suc k) n = omega (arith, length-hex k (n / 16), length-append (hex k (n / 16)) (digit_glyph true (n % 16) ∷ []))

-- A digit reads as its value.
digit-value-glyph : (d : ℕ) → d < 16 → digit_value (digit_glyph true d) ≡ d
digit-value-glyph d h = grind arith

-- The digits of a number that fits them read as the number.
pub digits-value-hex : (k n : ℕ) → n < 16 ^ k → digits_value 16 (hex k n) ≡ n
unfolding hex
digits-value-hex zero n h = omega arith
digits-value-hex (suc k) n h =
    let rest : n / 16 < 16 ^ k = omega arith in
    let read = digits-value-hex k (n / 16) rest in
    let last = digit-value-glyph (n % 16) (omega arith) in
    digits_value_push 16 (hex k (n / 16)) (digit_glyph true (n % 16)) ∙ omega (arith, read, last)

-- No digit.
pub hex-none : [] ≡ hex 0 0
unfolding hex
hex-none = refl

-- One digit more.
pub hex-more : (k v d : ℕ) → d < 16 → hex k v ++ digit_glyph true d ∷ [] ≡ hex (suc k) (v * 16 + d)
unfolding hex
hex-more k v d h =
    let front : (v * 16 + d) / 16 ≡ v = omega arith in
    let last : (v * 16 + d) % 16 ≡ d = omega arith in
    rw (front, last) refl

-- Each digit is one of 0-9A-F.
pub record IsDigit (glyph : ℕ) : Type 0 where
  pub value : ℕ
  pub small : value < 16
  pub is : digit_glyph true value ≡ glyph

pub hex-digit : (k n i : ℕ) → i < k → IsDigit (get_or (hex k n) i 0)
unfolding hex
hex-digit zero n i h = absurd (omega arith)
hex-digit (suc k) n i h =
    let long = length-hex k (n / 16) in
    elim (cases_lt i k) [
      | inl low ↦ rw (get_or_append_left (hex k (n / 16)) (digit_glyph true (n % 16) ∷ []) 0 i (omega arith)) (hex-digit k (n / 16) i low)
      | inr high ↦
          let same : i ≡ length (hex k (n / 16)) = omega arith in
          rw (same, get_or-append_seam (hex k (n / 16)) (digit_glyph true (n % 16)) [] 0) (record { value = n % 16; small = omega arith; is = refl })
    ]

-- A number of fewer than sixteen digits has room for one more.
pub pow-small : (i v : ℕ) → v < 16 ^ i → i < 16 → v < 16 ^ 15
pow-small i v h few = omega (arith, pow-le-pow_right {n = 16} (omega arith) {i = i} {j = 15} (omega arith))

pub pow-step : (i v d : ℕ) → v < 16 ^ i → d < 16 → v * 16 + d < 16 ^ suc i
pow-step i v d h few = omega (arith, pow-suc 16 i)

-- The digits stand at their values.
abbrev are-digits : ℕ → Bool
are-digits zero = true
are-digits (suc d) = eqb (get_or DIGITS d 0) (digit_glyph true d) && are-digits d

are-below : (n d : ℕ) → T (are-digits n) → d < n → get_or DIGITS d 0 ≡ digit_glyph true d
are-below zero d t h = absurd (omega arith)
are-below (suc n) d t h = elim (eq-zero-or-pos (n - d)) [
  | inl z ↦ let same : d ≡ n = omega arith in rw same (eqb→eq _ _ (and_l _ (are-digits n) t))
  | inr g ↦ are-below n d (and_r _ (are-digits n) t) (omega arith)
]

pub digit-here : (d : ℕ) → d < 16 → get_or DIGITS d 0 ≡ digit_glyph true d
digit-here d h = are-below 16 d tt h

-- The last digit is written in front of those that are.
pub hex-last : (place rest : ℕ) (text : List ℕ) → place < length text
    → hex (suc place) rest ++ drop (suc place) text ≡ hex place (rest / 16) ++ drop place (set text place (get_or DIGITS (rest % 16) 0))
unfolding hex
hex-last place rest text within =
    rw (digit-here (rest % 16) (omega arith), drop-set text place (digit_glyph true (rest % 16)) within, add-one) (append_assoc (hex place (rest / 16)) (digit_glyph true (rest % 16) ∷ []) (drop (suc place) text))

-- All digits are written.
pub written-all : (k n left rest : ℕ) (text : List ℕ) → left ≡ 0 → hex k n ≡ hex left rest ++ drop left text → text ≡ hex k n
unfolding hex
written-all k n zero rest text none h = sym h
written-all k n (suc left) rest text none h = absurd (omega arith)
