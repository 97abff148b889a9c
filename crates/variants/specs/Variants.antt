-- Encounters with one thing changed.
use Rattle.std.specs.Prelude.{◌≡◌, ◌≤◌, ◌^◌, length, unsigned_abs, MatchOption, Option}
use Rattle.acas_base.specs.Encounter.{IsEncounter, Parts}
use Rattle.flight.specs.Inside.{IsInside}
use Rattle.variants.specs.Exchanges.{IsExchanged}
use Rattle.variants.specs.Flights.{IsShifted}
use Rattle.variants.specs.Losses.{IsLossy}
use Rattle.variants.specs.declared.change.Change.{Change}
use Rattle.variants.specs.declared.change.Change.TheVariants.{Exchanged, Lost, Shifted}

-- The encounter `d` is `e` with one thing changed, and all else is equal.
abbrev pub IsVaried : Parts → Change → Parts → Type 0
IsVaried e (Shifted shift) d = IsShifted e shift.quantity shift.craft shift.value d
IsVaried e (Lost loss) d = IsLossy e loss d
IsVaried e (Exchanged pair) d = IsExchanged e pair d

-- It is an encounter, and its aircraft stay in the box.
pub record IsVariant (e : Parts) (change : Change) (d : Parts) : Type 0 where
  pub encounter : IsEncounter d
  pub inside : IsInside d
  pub varied : IsVaried e change d

-- The variant, or none where there is no such encounter.
abbrev pub IsAnswer : Parts → Change → Option Parts → Type 0
IsAnswer e change answer = MatchOption answer ((d : Parts) → IsVariant e change d → ⊥) (IsVariant e change)

-- A value that a row of changes can have.
abbrev pub IsSmall : Change → Type 0
IsSmall (Shifted shift) = unsigned_abs shift.value ≤ 2 ^ 33
IsSmall (Lost loss) = Unit {0}
IsSmall (Exchanged pair) = Unit {0}

-- There is at most one variant for each change.
abbrev pub OneVariant : Type 0
OneVariant = (e : Parts) (change : Change) (c d : Parts) → IsVaried e change c → IsVaried e change d → c ≡ d

-- It has as many aircraft and cycles.
pub record HasSizesOf (d e : Parts) : Type 0 where
  pub crafts : length d.crafts ≡ length e.crafts
  pub cycles : d.cycles ≡ e.cycles
