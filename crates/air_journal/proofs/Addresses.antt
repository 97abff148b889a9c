-- The address of an aircraft that was read from the list.
use Rattle.std.proofs.Common.{◌≡◌, ℕ, ◌<◌, List, length, get_or, Option, Some, refl, sym, ap, subst}
use Rattle.std.specs.Option.{option_map_or}
use Rattle.std.specs.Prelude.{slice_get}
use Rattle.std.proofs.lemmas.Option.{slice_get_read}
use Rattle.acas_base.specs.Encounter.{Parts}
use Rattle.acas_base.specs.declared.craft.CraftSpec.{CraftSpec}
use Rattle.air_journal.specs.Airs.{address_of}

pub address-is : (e : Parts) (crafts : List CraftSpec) (own : ℕ) (craft : CraftSpec) → crafts ≡ e.crafts → own < length crafts → craft ≡ get_or crafts own craft → craft.address ≡ address_of e own
address-is e crafts own craft same within is =
    let at : slice_get e.crafts own ≡ Some craft = subst (λ xs. slice_get xs own ≡ Some craft) same (slice_get_read crafts (length crafts) own craft refl within is) in
    ap (λ (o : Option CraftSpec). option_map_or (λ (c : CraftSpec). c.address) o 0) (sym at)
