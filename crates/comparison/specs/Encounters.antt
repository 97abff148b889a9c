-- Encounters that are compared.
use Rattle.std.specs.Prelude.{◌≡◌, None, map}
use Rattle.acas_base.specs.Encounter.{Parts}
use Rattle.acas_base.specs.declared.craft.CraftSpec.{CraftSpec}

-- What the line `craft` of an aircraft says: all but its ceiling.
abbrev pub without_ceiling : CraftSpec → CraftSpec
without_ceiling craft = record craft { ceiling = None }

-- The lines `run` and `craft` of both say the same. So both have as many cycles and the same aircraft, in the same
-- order.
pub record AreAlike (e f : Parts) : Type 0 where
  pub cycles : e.cycles ≡ f.cycles
  pub elevation : e.elevation ≡ f.elevation
  pub crafts : map without_ceiling e.crafts ≡ map without_ceiling f.crafts
