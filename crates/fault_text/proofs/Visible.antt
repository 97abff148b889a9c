-- What is shown has only bytes that a terminal shows.
use Rattle.std.proofs.Common.{◌≡◌, ◌<◌, ◌+◌, ◌%◌, ◌/◌, ℕ, Bool, true, false, List, [], ◌∷◌, ◌++◌, length, take, arith, refl}
use Rattle.std.specs.Prelude.{◌&&◌, nat_le, nat_lt, codes, if◌then◌else◌}
use Rattle.std.specs.Fmt.{digit_glyph}
use Rattle.std.specs.List.{AllByRecursion, flat_map}
use Rattle.std.proofs.lemmas.Bool.{false≢true, leb-true}
use Rattle.acas_text.specs.Hex.{hex}
use Rattle.fault_text.specs.Shown.{IsVisible, glyphs, is_plain, shown}

both-seen : (xs ys : List ℕ) → AllByRecursion IsVisible xs → AllByRecursion IsVisible ys → AllByRecursion IsVisible (xs ++ ys)
both-seen [] ys h k = k
both-seen (x ∷ xs) ys h k = (h.0, both-seen xs ys h.1 k)

digit-seen : (d : ℕ) → d < 16 → IsVisible (digit_glyph true d)
digit-seen d h = at (nat_lt d 10) where
  at : (b : Bool) → IsVisible (if b then 48 + d else 55 + d)
  at true = (omega arith, omega (arith, h))
  at false = (omega arith, omega (arith, h))

hex-seen : (c : ℕ) → AllByRecursion IsVisible (hex 2 c)
unfolding hex
hex-seen c = (digit-seen (c / 16 % 16) (omega arith), (digit-seen (c % 16) (omega arith), tt))

plain-seen : (c : ℕ) (a b : Bool) (rest : Bool) → nat_le 32 c ≡ a → nat_le c 126 ≡ b → (a && (b && rest)) ≡ true → IsVisible c
plain-seen c true true rest low high h = (leb-true 32 c low, leb-true c 126 high)
plain-seen c true false rest low high h = absurd (false≢true h)
plain-seen c false b rest low high h = absurd (false≢true h)

glyphs-seen : (c : ℕ) → AllByRecursion IsVisible (glyphs c)
glyphs-seen c = at (is_plain c) refl where
  at : (b : Bool) → is_plain c ≡ b → AllByRecursion IsVisible (if b then c ∷ [] else 92 ∷ 120 ∷ hex 2 c)
  at true is = (plain-seen c (nat_le 32 c) (nat_le c 126) _ refl refl is, tt)
  at false is = ((omega arith, omega arith), ((omega arith, omega arith), hex-seen c))

all-seen : (bytes : List ℕ) → AllByRecursion IsVisible (flat_map glyphs bytes)
all-seen [] = tt
all-seen (c ∷ cs) = both-seen (glyphs c) (flat_map glyphs cs) (glyphs-seen c) (all-seen cs)

points-seen : (b : Bool) → AllByRecursion IsVisible (if b then codes ".." else [])
points-seen true = ((omega arith, omega arith), ((omega arith, omega arith), tt))
points-seen false = tt

pub shown-seen : (bytes : List ℕ) → AllByRecursion IsVisible (shown bytes)
shown-seen bytes =
    ((omega arith, omega arith), both-seen (flat_map glyphs (take 40 bytes)) _ (all-seen (take 40 bytes)) ((omega arith, omega arith), points-seen (nat_lt 40 (length bytes))))
