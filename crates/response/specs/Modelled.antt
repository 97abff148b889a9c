-- A modelled flight as it is told, cycle by cycle.
use Rattle.std.specs.Prelude.{◌≡◌, ℕ, ◌+◌, ◌-◌, ◌<◌, ◌≤◌, ℤ, List}
use Rattle.acas_base.specs.Encounter.{Parts}
use Rattle.acas_base.specs.declared.entry.Entry.{Entry}
use Rattle.response.specs.Flown.{flown}
use Rattle.response.specs.Flying.{Flying}

-- The flight of an aircraft, and in how many cycles it was told.
pub record FlightTold : Type 0 where
  pub encounter : Parts
  pub journal : List Entry
  pub craft : ℕ
  pub told : ℕ

-- The altitude in the cycle that comes next.
pub record IsNextAltitude (it : FlightTold) (altitude : ℤ) : Type 0 where
  pub in_run : it.told < it.encounter.cycles
  pub value : altitude ≡ flown it.encounter it.journal it.craft (it.told + 1)

-- What is kept: the aircraft in the cycle that was told last, or in cycle 1 where none was.
pub record IsTold (flier : Flying) (cycles told : ℕ) : Type 0 where
  pub run : cycles ≡ flier.encounter.cycles
  pub in_run : told ≤ flier.encounter.cycles
  pub at : flier.cycle ≡ told + (1 - told)
