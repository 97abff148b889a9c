-- Addresses that are exchanged.
use Rattle.std.specs.Prelude.{◌≡◌, ℕ, ◌<◌, List, length}
use Rattle.acas_base.specs.Encounter.{Parts, address_in}
use Rattle.acas_base.specs.declared.craft.CraftSpec.{CraftSpec}
use Rattle.variants.specs.Flights.{IsSameRun, with_craft}
use Rattle.variants.specs.declared.change.Exchange.{Exchange}

abbrev pub with_address : ℕ → CraftSpec → CraftSpec
with_address address craft = record { address = address; kind = craft.kind; x = craft.x; y = craft.y; alt = craft.alt; ceiling = craft.ceiling }

-- The aircraft, where two have exchanged their addresses.
abbrev pub exchanged : Exchange → List CraftSpec → List CraftSpec
exchanged pair crafts =
    with_craft pair.two (with_address (address_in crafts pair.one)) (with_craft pair.one (with_address (address_in crafts pair.two)) crafts)

-- The encounter `d` is `e` with the addresses of two aircraft exchanged. All else stays with the index.
pub record IsExchanged (e : Parts) (pair : Exchange) (d : Parts) : Type 0 where
  pub run : IsSameRun d e
  pub one : pair.one < length e.crafts
  pub two : pair.two < length e.crafts
  pub crafts : d.crafts ≡ exchanged pair e.crafts
  pub legs : d.legs ≡ e.legs
  pub misses : d.misses ≡ e.misses
  pub plans : d.plans ≡ e.plans
  pub fates : d.fates ≡ e.fates
