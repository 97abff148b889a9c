-- What fields say.
use Rattle.std.proofs.Common.{◌≡◌, ℕ, zero, suc, ◌<◌, ◌≤◌, ◌^◌, ◌==◌, ◌&&◌, Bool, true, false, ℤ, pos, negsuc, neg_ℤ, List, [], ◌∷◌, Option, Some, None, refl, sym, ap, ◌∙◌, arith, w32, w64}
use Rattle.std.specs.Prelude.{◌≢◌, ◌↔◌, FitsSigned, IfSome, IsSome, if◌then◌else◌, int_le, nat_le, nat_lt, slice_index, slice_index_or, unsigned_abs}
use Rattle.std.specs.Fmt.{decimal, signed_decimal}
use Rattle.std.specs.Int.{IsInRange}
use Rattle.std.specs.Str.{bytes_eq}
use Rattle.std.specs.Str.Parse.{IsNumeral, digits_value, signed_digits_value}
use Rattle.std.proofs.lemmas.Fmt.{decimal_is_IsNumeral}
use Rattle.std.proofs.lemmas.Int.{ints}
use Rattle.std.proofs.lemmas.Option.{none-some}
use Rattle.std.proofs.lemmas.Slice.Eq.{bytes_eq-Decides}
use Rattle.std.proofs.lemmas.Str.Parse.{digit_from_value}
use lib.Signed.{mag}
use Rattle.csv.specs.Records.{field_at}
use Rattle.acas_base.specs.Ranges.{IsBetween}
use Rattle.acas_text.specs.Decimal.{IsPlain}
use Rattle.acas_text.specs.Hex.{hex}
use Rattle.acas_text.proofs.Digits.{digits-value-hex}
use Rattle.enc_file.specs.Values.{address_in, if_spelled, mask_in, number_in, passing}

pub field-some : (row : List (List ℕ)) (i : ℕ) (bytes : List ℕ) → field_at row i ≡ Some bytes → bytes ≡ slice_index_or row i []
unfolding field_at
field-some [] i bytes h = absurd (none-some bytes h)
field-some (f ∷ fs) zero bytes h = cc h
field-some (f ∷ fs) (suc i) bytes h = field-some fs i bytes h

pub field-none : (row : List (List ℕ)) (i : ℕ) → field_at row i ≡ None → [] ≡ slice_index_or row i []
unfolding field_at
field-none [] i h = refl
field-none (f ∷ fs) zero h = absurd (none-some f (sym h))
field-none (f ∷ fs) (suc i) h = field-none fs i h

-- The first byte of a numeral is a digit.
first-digit : (ds : List ℕ) → IsNumeral 10 ds → IsInRange 48 57 (slice_index ds 0)
first-digit [] h = absurd (omega (arith, h.0))
first-digit (c ∷ cs) h = digit_from_value c h.1.0

decimal-value : (n : ℕ) → n < 2 ^ 64 → signed_digits_value 10 (decimal n) ≡ pos n
decimal-value n h =
    let k = decimal_is_IsNumeral n h in
    let d = first-digit (decimal n) k.0 in
    let minus : (slice_index (decimal n) 0 == 45) ≡ false = grind (arith, d.0, d.1) in
    let plus : (slice_index (decimal n) 0 == 43) ≡ false = grind (arith, d.0, d.1) in
    rw (minus, plus) (ap pos k.1)

-- The text of a number has its value.
pub signed-value : (n : ℤ) → mag n < 2 ^ 63 → signed_digits_value 10 (signed_decimal n) ≡ n
signed-value (pos n) h = decimal-value n (omega arith)
signed-value (negsuc n) h = ap (λ m. neg_ℤ (pos m)) (decimal_is_IsNumeral (suc n) (omega arith)).1

pub spelled-is : {X : Type 0} (text : X → List ℕ) (bytes : List ℕ) (x y : X) → bytes ≡ text x → y ≡ x → if_spelled text bytes y ≡ Some x
spelled-is text bytes x y e same =
    let equal : bytes_eq (text y) bytes ≡ true = (bytes_eq-Decides (text y) bytes).1 (ap text same ∙ sym e) in
    rw (equal, same) refl

choose-none : {X : Type 0} (c : Bool) (x : X) → (c ≡ true → ⊥) → (if c then Some x else None) ≡ None
choose-none false x h = refl
choose-none true x h = absurd (h refl)

pub passing-none : {X : Type 0} (test : X → Bool) (text : X → List ℕ) (bytes : List ℕ) (x : X) → (text x ≡ bytes → test x ≡ true → ⊥) → passing test (if_spelled text bytes x) ≡ None
passing-none test text bytes x h = at (bytes_eq (text x) bytes) (bytes_eq-Decides (text x) bytes).0 where
  at : (b : Bool) → (b ≡ true → text x ≡ bytes) → passing test (if b then Some x else None) ≡ None
  at false k = refl
  at true k = choose-none (test x) x (h (k refl))

mag-plain : (n : ℤ) → unsigned_abs n < 10 ^ 10 → mag n < 2 ^ 63
mag-plain (pos n) h = omega arith
mag-plain (negsuc n) h = omega arith

small-between : (low high n : ℤ) → FitsSigned w32 low → FitsSigned w32 high → IsBetween low high n → unsigned_abs n < 10 ^ 10
small-between low high (pos k) a b h = omega (arith, ints)
small-between low high (negsuc k) a b h = omega (arith, ints)

between : (low high n : ℤ) → (int_le low n && int_le n high) ≡ true → IsBetween low high n
between low high n h = grind (arith, ints)

-- A plain number is read where it is in its range.
pub number-plain : (low high n : ℤ) (bytes : List ℕ) → IsPlain bytes n → number_in low high bytes ≡ passing (λ k. int_le low k && int_le k high) (Some n)
unfolding number_in
number-plain low high n bytes h =
    let value : signed_digits_value 10 bytes ≡ n = ap (signed_digits_value 10) h.0 ∙ signed-value n (mag-plain n h.1) in
    ap (passing (λ k. int_le low k && int_le k high)) (spelled-is signed_decimal bytes n (signed_digits_value 10 bytes) h.0 value)

pub number-none : (low high : ℤ) (bytes : List ℕ) → FitsSigned w32 low → FitsSigned w32 high → ((n : ℤ) → IsPlain bytes n → ⊥) → number_in low high bytes ≡ None
unfolding number_in
number-none low high bytes a b h =
    let v = signed_digits_value 10 bytes in
    passing-none (λ k. int_le low k && int_le k high) signed_decimal bytes v (λ e t. h v (sym e, small-between low high v a b (between low high v t)))

-- A number of so many digits, where it passes.
hex-spelled : (test : ℕ → Bool) (k n : ℕ) (bytes : List ℕ) → n < 16 ^ k → bytes ≡ hex k n → passing test (if_spelled (hex k) bytes (digits_value 16 bytes)) ≡ passing test (Some n)
hex-spelled test k n bytes small e = ap (passing test) (spelled-is (hex k) bytes n (digits_value 16 bytes) e (ap (digits_value 16) e ∙ digits-value-hex k n small))

-- Bytes that spell none.
hex-unspelled : (test : ℕ → Bool) (k : ℕ) (bytes : List ℕ) → ((n : ℕ) → test n ≡ true → n < 16 ^ k) → ((n : ℕ) → n < 16 ^ k → hex k n ≢ bytes) → passing test (if_spelled (hex k) bytes (digits_value 16 bytes)) ≡ None
hex-unspelled test k bytes small none = passing-none test (hex k) bytes (digits_value 16 bytes) (λ e t. none (digits_value 16 bytes) (small (digits_value 16 bytes) t) e)

pub mask-none : (bytes : List ℕ) → ((n : ℕ) → n < 16 ^ 2 → hex 2 n ≢ bytes) → mask_in bytes ≡ None
unfolding mask_in
mask-none bytes none = hex-unspelled (λ n. nat_lt n 256) 2 bytes (λ n t. grind (arith, t)) none

pub mask-is : (n : ℕ) (bytes : List ℕ) → n < 16 ^ 2 → bytes ≡ hex 2 n → mask_in bytes ≡ Some n
unfolding mask_in
mask-is n bytes small e =
    let t : nat_lt n 256 ≡ true = grind (arith, small) in
    hex-spelled (λ k. nat_lt k 256) 2 n bytes small e ∙ rw t refl

pub address-none : (bytes : List ℕ) → ((n : ℕ) → n < 16 ^ 6 → hex 6 n ≢ bytes) → address_in bytes ≡ None
unfolding address_in
address-none bytes none = hex-unspelled (λ n. nat_le 1 n && nat_le n 16777214) 6 bytes (λ n t. grind (arith, t)) none

pub address-is : (n : ℕ) (bytes : List ℕ) → n < 16 ^ 6 → bytes ≡ hex 6 n → address_in bytes ≡ passing (λ k. nat_le 1 k && nat_le k 16777214) (Some n)
unfolding address_in
address-is n bytes small e = hex-spelled (λ k. nat_le 1 k && nat_le k 16777214) 6 n bytes small e

-- What `Address::new` gives of a number.
pub address-made : (n : ℕ) (o : Option ℕ) → IsSome o ↔ ((1 ≤ n) × (n ≤ 16777214)) → IfSome o (λ a. a ≡ n) → o ≡ passing (λ k. nat_le 1 k && nat_le k 16777214) (Some n)
address-made n None some value = sym (choose-none (nat_le 1 n && nat_le n 16777214) n (λ t. absurd (cc (some.1 (grind (arith, t))))))
address-made n (Some a) some value =
    let fits = some.0 refl in
    let t : (nat_le 1 n && nat_le n 16777214) ≡ true = grind (arith, fits.0, fits.1) in
    rw (t, value) refl

pub number-outside : (low high n : ℤ) (bytes : List ℕ) → IsPlain bytes n → (IsBetween low high n → ⊥) → number_in low high bytes ≡ None
number-outside low high n bytes plain out =
    number-plain low high n bytes plain ∙ choose-none (int_le low n && int_le n high) n (λ t. out (between low high n t))

pub number-inside : (low high n : ℤ) (bytes : List ℕ) → IsPlain bytes n → IsBetween low high n → number_in low high bytes ≡ Some n
number-inside low high n bytes plain inside =
    let t : (int_le low n && int_le n high) ≡ true = grind (arith, ints, inside.0, inside.1) in
    number-plain low high n bytes plain ∙ rw t refl

pub fits-between : (low high n : ℤ) → FitsSigned w32 low → FitsSigned w32 high → IsBetween low high n → FitsSigned w32 n
fits-between low high (pos k) a b h = record { sfits = omega (arith, ints, a.sfits, b.sfits, h.0, h.1) }
fits-between low high (negsuc k) a b h = record { sfits = omega (arith, ints, a.sfits, b.sfits, h.0, h.1) }

pub fits-plain : (n : ℤ) (bytes : List ℕ) → IsPlain bytes n → FitsSigned w64 n
fits-plain n bytes h = record { sfits = mag-plain n h.1 }
