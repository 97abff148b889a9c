-- Which texts spell a word.
use Rattle.std.proofs.Common.{◌≡◌, ◌≢◌, ◌↔◌, ℕ, zero, suc, ◌+◌, ◌-◌, ◌*◌, ◌/◌, ◌%◌, ◌^◌, ◌<◌, inl, inr, nat_lt, Bool, true, false, if◌then◌else◌, List, [], ◌∷◌, ◌++◌, Option, None, Some, IfSome, IsSome, MatchOption, length, refl, sym, ap, ◌∙◌, subst, arith, append_assoc, append-nil}
use Rattle.std.specs.Fmt.{digit_glyph}
use Rattle.std.specs.List.{AllByRecursion}
use Rattle.std.specs.Str.Parse.{digits_value}
use Rattle.acas_text.proofs.Digits.{digits-value-hex, hex-more, hex-none, length-hex, pow-step}
use Rattle.acas_text.specs.Hex.{hex}
use Rattle.word_text.specs.Digits.{AreDigits, IsDigit}

-- The value of a digit.
value-of : (c : ℕ) → IsDigit c → (d : ℕ) × (d < 16) × (digit_glyph true d ≡ c)
value-of c (inl low) = (c - 48, omega (arith, low.0, low.1), grind (arith, low.0, low.1))
value-of c (inr high) = (c - 55, omega (arith, high.0, high.1), grind (arith, high.0, high.1))

is-digit : (d : ℕ) → d < 16 → IsDigit (digit_glyph true d)
is-digit d h = go (nat_lt d 10) refl
  where
    go : (low : Bool) → nat_lt d 10 ≡ low → IsDigit (if low then 48 + d else 55 + d)
    go true e = inl (omega arith, grind (arith, e))
    go false e = inr (grind (arith, e), omega (arith, h))

all-append : (xs ys : List ℕ) → AllByRecursion IsDigit xs → AllByRecursion IsDigit ys → AllByRecursion IsDigit (xs ++ ys)
all-append [] ys h k = k
all-append (x ∷ xs) ys h k = (h.0, all-append xs ys h.1 k)

all-hex : (k n : ℕ) → AllByRecursion IsDigit (hex k n)
unfolding hex
all-hex zero n = tt
all-hex (suc k) n = all-append (hex k (n / 16)) (digit_glyph true (n % 16) ∷ []) (all-hex k (n / 16)) (is-digit (n % 16) (omega arith), tt)

-- Digits behind those of a number spell another number.
spelled : (rest : List ℕ) (k v total : ℕ) → k + length rest ≡ total → v < 16 ^ k → AllByRecursion IsDigit rest → (n : ℕ) × (n < 16 ^ total) × (hex k v ++ rest ≡ hex total n)
spelled [] k v total e small digits =
    let same : k ≡ total = omega (arith, e) in
    (v, subst (λ (t : ℕ). v < 16 ^ t) same small, append-nil (hex k v) ∙ ap (λ (t : ℕ). hex t v) same)
spelled (c ∷ cs) k v total e small digits =
    let d = value-of c digits.0 in
    let more = spelled cs (suc k) (v * 16 + d.0) total (omega (arith, e)) (pow-step k v d.0 small d.1) digits.1 in
    let first = ap (λ (g : ℕ). hex k v ++ g ∷ cs) (sym d.2) ∙ sym (append_assoc (hex k v) (digit_glyph true d.0 ∷ []) cs) ∙ ap (λ (t : List ℕ). t ++ cs) (hex-more k v d.0 d.1) in
    (more.0, more.1, first ∙ more.2)

abbrev pub Parsed : List ℕ → Option ℕ → Type 0
Parsed text found = MatchOption found ((n : ℕ) → n < 16 ^ 14 → hex 14 n ≢ text) (λ n. (n < 16 ^ 14) × (text ≡ hex 14 n))

pub some-digits : (text : List ℕ) (found : Option ℕ) → Parsed text found → IsSome found ↔ AreDigits text
some-digits text None h = (
  λ is. absurd cc,
  λ digits.
      let word = spelled text 0 0 14 (omega (arith, digits.0)) (omega arith) digits.1 in
      absurd (h word.0 word.1 (sym (ap (λ (t : List ℕ). t ++ text) hex-none ∙ word.2))),
)
some-digits text (Some n) h = (λ is. subst AreDigits (sym h.1) (length-hex 14 n, all-hex 14 n), λ digits. refl)

pub some-value : (text : List ℕ) (found : Option ℕ) → Parsed text found → IfSome found (λ word. word ≡ digits_value 16 text)
some-value text None h = tt
some-value text (Some n) h = sym (digits-value-hex 14 n h.0) ∙ ap (digits_value 16) (sym h.1)
