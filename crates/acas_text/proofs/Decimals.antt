-- Which texts are plain decimals.
use Rattle.std.proofs.Common.{◌≡◌, ℤ, pos, negsuc, drop, ℕ, zero, suc, ◌<◌, ◌≤◌, ◌^◌, List, [], ◌∷◌, length, get_or, take, sym, ap, ◌∙◌, subst, arith, inl, inr, suc, ◌+◌, ◌/◌, ◌%◌, length-append}
use Rattle.std.proofs.lemmas.Fmt.{decimal-digits_value, decimal_injective, decimal_is_IsNumeral, first_decimal, decimal_digit, decimal_step}
use Rattle.std.proofs.lemmas.Str.Parse.{digits_value-take-le, numerals_by_value, tells_digits}
use Rattle.std.proofs.lemmas.Bool.{cases_lt}
use Rattle.itoa.proofs.Decimal.{length_two}
use Rattle.std.specs.Char.{digit_value}
use Rattle.std.specs.Fmt.{decimal}
use Rattle.std.specs.Str.Parse.{AllDigits, digits_value}
use Rattle.acas_text.specs.Decimal.{IsPlain, IsShort}

-- A decimal has no zero in front of other digits.
pub decimal-short : (n : ℕ) → n < 2 ^ 64 → IsShort (decimal n)
decimal-short n h = record {
  some = (decimal_is_IsNumeral n h).0.0;
  lead = λ e. elim (cases_lt 0 n) [
    | inl some ↦ absurd (omega (arith, first_decimal n some h))
    | inr none ↦ ap length (decimal_digit n (omega arith))
  ];
}

-- Digits in the shortest form are the decimal of their value.
pub short-decimal : (ds : List ℕ) → IsShort ds → AllDigits 10 ds → digits_value 10 ds < 2 ^ 64 → ds ≡ decimal (digits_value 10 ds)
short-decimal ds short digits small = sym (decimal-digits_value (numerals_by_value (AllDigits 10) tells_digits) ds digits short.some short.lead small)

digit-at : (ds : List ℕ) (i : ℕ) → AllDigits 10 ds → i < length ds → digit_value (get_or ds i 0) < 10
digit-at [] i d h = absurd (omega arith)
digit-at (c ∷ cs) zero d h = d.0
digit-at (c ∷ cs) (suc i) d h = digit-at cs i d.1 (omega arith)

-- Each byte of a decimal is a digit.
pub decimal-digit : (n i : ℕ) (bytes : List ℕ) → n < 2 ^ 64 → decimal n ≡ bytes → i < length bytes → digit_value (get_or bytes i 0) < 10
decimal-digit n i bytes h e l = digit-at bytes i (subst (AllDigits 10) e (decimal_is_IsNumeral n h).0.1) l

-- The front of a decimal is no greater number.
pub decimal-front : (n i : ℕ) (bytes : List ℕ) → n < 2 ^ 64 → decimal n ≡ bytes → digits_value 10 (take i bytes) ≤ n
decimal-front n i bytes h e = omega (arith, digits_value-take-le 10 bytes i (omega arith), ap (digits_value 10) e, (decimal_is_IsNumeral n h).1)

pub decimal-value : (n : ℕ) (bytes : List ℕ) → n < 2 ^ 64 → decimal n ≡ bytes → digits_value 10 bytes ≡ n
decimal-value n bytes h e = sym (ap (digits_value 10) e) ∙ (decimal_is_IsNumeral n h).1

-- A text is the decimal of one number.
pub decimal-same : (n m : ℕ) (bytes : List ℕ) → n < 2 ^ 64 → m < 2 ^ 64 → decimal n ≡ bytes → bytes ≡ decimal m → n ≡ m
decimal-same n m bytes h k e f = decimal_injective n m h k (e ∙ f)

-- What stands behind a minus: a number above zero.
pub record IsBelowZero (digits : List ℕ) : Type 0 where
  pub size : ℕ
  pub some : 0 < size
  pub small : size < 10 ^ 10
  pub spelled : decimal size ≡ digits

pub below-zero : (bytes : List ℕ) (n : ℤ) → get_or bytes 0 0 ≡ 45 → IsPlain bytes n → IsBelowZero (drop 1 bytes)
below-zero bytes (pos k) minus h =
    let short = decimal-short k (omega (arith, h.1)) in
    absurd (omega (arith, decimal-digit k 0 bytes (omega (arith, h.1)) (sym h.0) (omega (arith, short.some, ap length h.0)), ap digit_value minus))
below-zero bytes (negsuc k) minus h = record { size = suc k; some = omega arith; small = omega (arith, h.1); spelled = sym (ap (drop 1) h.0) }

-- How many digits a number of two or more has.
pub length-from-ten : (k n : ℕ) → 10 ^ suc k ≤ n → n < 10 ^ suc (suc k) → n < 2 ^ 64 → length (decimal n) ≡ suc (suc k)
length-from-ten zero n low high fits = length_two n (omega (arith, low)) (omega (arith, high))
length-from-ten (suc k) n low high fits =
    let some : 10 ≤ n = omega (arith, low) in
    let front = length-from-ten k (n / 10) (omega (arith, low)) (omega (arith, high)) (omega arith) in
    ap length (decimal_step n some fits) ∙ length-append (decimal (n / 10)) ((48 + n % 10) ∷ []) ∙ omega (arith, front)
