-- Which words say which variation of an encounter. Each variation is said in one way.
use Rattle.std.specs.Prelude.{ℕ, ◌<◌, ◌^◌, List, [], ◌∷◌, codes}
use Rattle.std.specs.Fmt.{decimal, signed_decimal}
use Rattle.acas_text.specs.Hex.{hex}
use Rattle.variants.specs.Rows.{AreValues}
use Rattle.variants.specs.declared.change.Axis.TheVariants.{Altitude, X, Y}
use Rattle.variants.specs.declared.change.Quantity.{Quantity}
use Rattle.variants.specs.declared.change.Quantity.TheVariants.{Late, Start}
use Rattle.variants.specs.declared.rows.Values.{Values}
use Rattle.variation_words.specs.declared.variation.Variation.{Variation}
use Rattle.variation_words.specs.declared.variation.Variation.TheVariants.{Exchanges, Losses, Shifts}

abbrev pub quantity_word : Quantity → List ℕ
quantity_word (Start X) = codes "x"
quantity_word (Start Y) = codes "y"
quantity_word (Start Altitude) = codes "alt"
quantity_word Late = codes "late"

-- The first value, how many values there are, and the step from one to the next.
abbrev pub value_words : Values → List (List ℕ)
value_words values = signed_decimal values.first ∷ decimal values.count ∷ signed_decimal values.step ∷ []

-- The words of a variation.
abbrev pub words_of : Variation → List (List ℕ)
words_of (Shifts quantity address values) = quantity_word quantity ∷ hex 6 address ∷ value_words values
words_of Losses = codes "lose" ∷ []
words_of Exchanges = codes "swap" ∷ []

-- The numbers of a variation are in their ranges.
abbrev pub IsInRange : Variation → Type 0
IsInRange (Shifts quantity address values) = (address < 2 ^ 24) × AreValues values
IsInRange Losses = Unit {0}
IsInRange Exchanges = Unit {0}
