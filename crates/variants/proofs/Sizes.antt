-- A variant has as many aircraft and cycles as the encounter.
use Rattle.std.proofs.Common.{◌≡◌, ◌∙◌, ℕ, ℤ, List, Option, None, Some, ap, length, refl}
use Rattle.std.specs.Prelude.{slice_get, slice_set}
use Rattle.std.specs.Option.{option_map_or}
use Rattle.std.proofs.lemmas.List.{length-set}
use Rattle.acas_base.specs.Encounter.{Parts, address_in}
use Rattle.acas_base.specs.declared.craft.CraftSpec.{CraftSpec}
use Rattle.leg_rows.specs.Flights.{at_place}
use Rattle.variants.specs.Exchanges.{with_address}
use Rattle.variants.specs.Flights.{IsShifted, late_place, moved, with_craft}
use Rattle.variants.specs.Variants.{HasSizesOf, IsVaried}
use Rattle.variants.specs.declared.change.Change.{Change}
use Rattle.variants.specs.declared.change.Change.TheVariants.{Exchanged, Lost, Shifted}
use Rattle.variants.specs.declared.change.Quantity.{Quantity}
use Rattle.variants.specs.declared.change.Quantity.TheVariants.{Late, Start}

replaced : (index : ℕ) (change : CraftSpec → CraftSpec) (crafts : List CraftSpec) (found : Option CraftSpec) → length (option_map_or (λ (craft : CraftSpec). slice_set crafts index (change craft)) found crafts) ≡ length crafts
replaced index change crafts None = refl
replaced index change crafts (Some craft) = length-set crafts index (change craft)

as-many : (index : ℕ) (change : CraftSpec → CraftSpec) (crafts : List CraftSpec) → length (with_craft index change crafts) ≡ length crafts
as-many index change crafts = replaced index change crafts (slice_get crafts index)

shifted : (e : Parts) (quantity : Quantity) (craft : ℕ) (value : ℤ) (d : Parts) → IsShifted e quantity craft value d → HasSizesOf d e
shifted e (Start axis) craft value d is = record { crafts = ap length is.crafts ∙ as-many craft (moved axis value) e.crafts; cycles = is.run.cycles }
shifted e Late craft value d is = record { crafts = ap length is.crafts ∙ as-many craft (λ spec. at_place spec (late_place e craft value 1)) e.crafts; cycles = is.run.cycles }

pub same-sizes : (e : Parts) (change : Change) (d : Parts) → IsVaried e change d → HasSizesOf d e
same-sizes e (Shifted shift) d is = shifted e shift.quantity shift.craft shift.value d is
same-sizes e (Lost loss) d is = record { crafts = ap length is.crafts; cycles = is.run.cycles }
same-sizes e (Exchanged pair) d is =
    let once = as-many pair.one (with_address (address_in e.crafts pair.two)) e.crafts in
    let twice = as-many pair.two (with_address (address_in e.crafts pair.one)) (with_craft pair.one (with_address (address_in e.crafts pair.two)) e.crafts) in
    record { crafts = ap length is.crafts ∙ twice ∙ once; cycles = is.run.cycles }
