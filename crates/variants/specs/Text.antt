-- The text of what a change is about.
use Rattle.std.specs.Prelude.{ℕ, ◌==◌, if◌then◌else◌, codes, List, ◌++◌}
use Rattle.std.specs.Fmt.{decimal, signed_decimal}
use Rattle.acas_base.specs.Encounter.{address_in}
use Rattle.acas_base.specs.declared.craft.CraftSpec.{CraftSpec}
use Rattle.acas_text.specs.Hex.{hex}
use Rattle.variants.specs.declared.change.Change.{Change}
use Rattle.variants.specs.declared.change.Change.TheVariants.{Exchanged, Lost, Shifted}

-- The address of the aircraft at an index, in six digits.
abbrev pub address_text : List CraftSpec → ℕ → List ℕ
address_text crafts craft = hex 6 (address_in crafts craft)

-- Two addresses with a stroke between.
abbrev pub pair_text : List CraftSpec → ℕ → ℕ → List ℕ
pair_text crafts one two = address_text crafts one ++ (codes "/" ++ address_text crafts two)

-- A number, or the first and the last of more.
abbrev pub numbers_text : ℕ → ℕ → List ℕ
numbers_text first last = if first == last then decimal first else decimal first ++ (codes "-" ++ decimal last)

-- The value of a change, as `vary` writes it.
abbrev pub value_text : List CraftSpec → Change → List ℕ
value_text crafts (Shifted shift) = signed_decimal shift.value
value_text crafts (Lost loss) = pair_text crafts loss.sender loss.receiver ++ (codes "/" ++ numbers_text loss.first loss.last)
value_text crafts (Exchanged pair) = pair_text crafts pair.one pair.two
