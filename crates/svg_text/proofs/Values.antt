-- Bytes of values: none has a meaning in a tag.
use Rattle.std.proofs.Common.{◌≡◌, ℕ, zero, suc, ◌+◌, ◌<◌, ◌≤◌, ◌/◌, ◌%◌, ◌^◌, ℤ, pos, negsuc, Bool, true, false, ◌&&◌, List, [], ◌∷◌, ◌++◌, codes, refl, arith}
use Rattle.std.specs.Prelude.{unsigned_abs}
use Rattle.std.specs.List.{AllByRecursion}
use Rattle.std.specs.Fmt.{decimal, digit_glyph, signed_decimal}
use Rattle.std.proofs.lemmas.Fmt.{decimal_by_steps}
use Rattle.acas_lines.specs.Lines.{joined}
use Rattle.acas_text.specs.Hex.{hex}
use Rattle.svg_text.specs.Attributes.{color_text, fill_text, place_text, turn_text}
use Rattle.svg_text.specs.Documents.{view_text}
use Rattle.svg_text.specs.Fitting.{FitsFrame, IsPoint}
use Rattle.svg_text.specs.Marks.{point_line, point_lines}
use Rattle.svg_text.specs.Xml.{each_byte, is_value_byte}
use Rattle.svg_text.specs.declared.document.Frame.{Frame}
use Rattle.svg_text.specs.declared.shapes.Color.{Color}
use Rattle.svg_text.specs.declared.shapes.Fill.{Fill}
use Rattle.svg_text.specs.declared.shapes.Fill.TheVariants as fills
use Rattle.svg_text.specs.declared.shapes.Point.{Point}

abbrev pub IsValue : List ℕ → Type 0
IsValue bytes = each_byte is_value_byte bytes ≡ true

pub both : (a b : Bool) → a ≡ true → b ≡ true → (a && b) ≡ true
both a b e f = rw (e, f) refl

pub parts : (a b : Bool) → (a && b) ≡ true → (a ≡ true) × (b ≡ true)
parts true b e = (refl, e)
parts false b e = absurd (cc)

pub value-append : (xs ys : List ℕ) → IsValue xs → IsValue ys → IsValue (xs ++ ys)
value-append [] ys g h = h
value-append (x ∷ xs) ys g h =
    let p = parts (is_value_byte x) (each_byte is_value_byte xs) g in
    both (is_value_byte x) (each_byte is_value_byte (xs ++ ys)) p.0 (value-append xs ys p.1 h)

-- ---- digits

digit-value : (k : ℕ) → k < 10 → IsValue ((48 + k) ∷ [])
unfolding is_value_byte
digit-value zero h = refl
digit-value (suc zero) h = refl
digit-value (suc (suc zero)) h = refl
digit-value (suc (suc (suc zero))) h = refl
digit-value (suc (suc (suc (suc zero)))) h = refl
digit-value (suc (suc (suc (suc (suc zero))))) h = refl
digit-value (suc (suc (suc (suc (suc (suc zero)))))) h = refl
digit-value (suc (suc (suc (suc (suc (suc (suc zero))))))) h = refl
digit-value (suc (suc (suc (suc (suc (suc (suc (suc zero)))))))) h = refl
digit-value (suc (suc (suc (suc (suc (suc (suc (suc (suc zero))))))))) h = refl
digit-value (suc (suc (suc (suc (suc (suc (suc (suc (suc (suc k)))))))))) h = absurd (omega arith)

glyph-value : (d : ℕ) → d < 16 → IsValue (digit_glyph true d ∷ [])
unfolding is_value_byte
glyph-value zero h = refl
glyph-value (suc zero) h = refl
glyph-value (suc (suc zero)) h = refl
glyph-value (suc (suc (suc zero))) h = refl
glyph-value (suc (suc (suc (suc zero)))) h = refl
glyph-value (suc (suc (suc (suc (suc zero))))) h = refl
glyph-value (suc (suc (suc (suc (suc (suc zero)))))) h = refl
glyph-value (suc (suc (suc (suc (suc (suc (suc zero))))))) h = refl
glyph-value (suc (suc (suc (suc (suc (suc (suc (suc zero)))))))) h = refl
glyph-value (suc (suc (suc (suc (suc (suc (suc (suc (suc zero))))))))) h = refl
glyph-value (suc (suc (suc (suc (suc (suc (suc (suc (suc (suc zero)))))))))) h = refl
glyph-value (suc (suc (suc (suc (suc (suc (suc (suc (suc (suc (suc zero))))))))))) h = refl
glyph-value (suc (suc (suc (suc (suc (suc (suc (suc (suc (suc (suc (suc zero)))))))))))) h = refl
glyph-value (suc (suc (suc (suc (suc (suc (suc (suc (suc (suc (suc (suc (suc zero))))))))))))) h = refl
glyph-value (suc (suc (suc (suc (suc (suc (suc (suc (suc (suc (suc (suc (suc (suc zero)))))))))))))) h = refl
glyph-value (suc (suc (suc (suc (suc (suc (suc (suc (suc (suc (suc (suc (suc (suc (suc zero))))))))))))))) h = refl
glyph-value (suc (suc (suc (suc (suc (suc (suc (suc (suc (suc (suc (suc (suc (suc (suc (suc d)))))))))))))))) h = absurd (omega arith)

pub decimal-value : (n : ℕ) → n < 2 ^ 64 → IsValue (decimal n)
decimal-value n h = decimal_by_steps (λ n ds. IsValue ds) digit-value (λ k ds many before. value-append ds ((48 + k % 10) ∷ []) before (digit-value (k % 10) (omega arith))) n h

minus-value : IsValue (45 ∷ [])
unfolding is_value_byte
minus-value = refl

pub signed-value : (n : ℤ) → unsigned_abs n ≤ 2 ^ 31 → IsValue (signed_decimal n)
signed-value (pos n) h = decimal-value n (omega arith)
signed-value (negsuc n) h = value-append (45 ∷ []) (decimal (suc n)) minus-value (decimal-value (suc n) (omega arith))

hex-value : (k n : ℕ) → IsValue (hex k n)
unfolding hex
hex-value zero n = refl
hex-value (suc k) n = value-append (hex k (n / 16)) (digit_glyph true (n % 16) ∷ []) (hex-value k (n / 16)) (glyph-value (n % 16) (omega arith))

-- ---- texts

sign-value : IsValue (codes "#")
unfolding is_value_byte
sign-value = refl

color-value : (color : Color) → IsValue (color_text color)
unfolding color_text
color-value color =
    value-append (codes "#" ++ hex 2 color.red ++ hex 2 color.green) (hex 2 color.blue)
    (value-append (codes "#" ++ hex 2 color.red) (hex 2 color.green) (value-append (codes "#") (hex 2 color.red) sign-value (hex-value 2 color.red)) (hex-value 2 color.green))
    (hex-value 2 color.blue)

nothing-value : IsValue (codes "none")
unfolding is_value_byte
nothing-value = refl

hatched-value : IsValue (codes "url(#hatching)")
unfolding is_value_byte
hatched-value = refl

pub stroke-value : (color : Color) → IsValue (color_text color)
stroke-value color = color-value color

pub fill-value : (fill : Fill) → IsValue (fill_text fill)
fill-value fills.Nothing = nothing-value
fill-value (fills.Plain color) = color-value color
fill-value fills.Hatched = hatched-value

space-value : IsValue (codes " ")
unfolding is_value_byte
space-value = refl

comma-value : IsValue (codes ",")
unfolding is_value_byte
comma-value = refl

feed-value : IsValue (codes "\n")
unfolding is_value_byte
feed-value = refl

rotate-value : IsValue (codes "rotate(-90 ")
unfolding is_value_byte
rotate-value = refl

bracket-value : IsValue (codes ")")
unfolding is_value_byte
bracket-value = refl

origin-value : IsValue (codes "0 0 ")
unfolding is_value_byte
origin-value = refl

place-value : (at : Point) → IsPoint at → IsValue (place_text at)
unfolding place_text
place-value at h =
    value-append (signed_decimal at.x ++ codes " ") (signed_decimal at.y) (value-append (signed_decimal at.x) (codes " ") (signed-value at.x h.x) space-value) (signed-value at.y h.y)

pub turn-value : (at : Point) → IsPoint at → IsValue (turn_text at)
unfolding turn_text
turn-value at h =
    value-append (codes "rotate(-90 " ++ place_text at) (codes ")") (value-append (codes "rotate(-90 ") (place_text at) rotate-value (place-value at h)) bracket-value

pub view-value : (frame : Frame) → FitsFrame frame → IsValue (view_text frame)
unfolding view_text
view-value frame h =
    value-append (codes "0 0 " ++ decimal frame.width ++ codes " ") (decimal frame.height)
    (value-append (codes "0 0 " ++ decimal frame.width) (codes " ") (value-append (codes "0 0 ") (decimal frame.width) origin-value (decimal-value frame.width (omega (arith, h.width)))) space-value)
    (decimal-value frame.height (omega (arith, h.height)))

point-value : (point : Point) → IsPoint point → IsValue (point_line point)
point-value point h =
    value-append (signed_decimal point.x ++ codes "," ++ signed_decimal point.y) (codes "\n")
    (value-append (signed_decimal point.x ++ codes ",") (signed_decimal point.y) (value-append (signed_decimal point.x) (codes ",") (signed-value point.x h.x) comma-value) (signed-value point.y h.y))
    feed-value

joined-points : (points : List Point) → AllByRecursion IsPoint points → IsValue (joined (point_lines points))
joined-points [] h = refl
joined-points (p ∷ points) h = value-append (point_line p) (joined (point_lines points)) (point-value p h.0) (joined-points points h.1)

pub points-value : (points : List Point) → AllByRecursion IsPoint points → IsValue (codes "\n" ++ joined (point_lines points))
points-value points h = value-append (codes "\n") (joined (point_lines points)) feed-value (joined-points points h)
