-- Which aircraft leaves the box first, and where.
use Rattle.std.specs.Prelude.{◌≡◌, ℕ, ◌<◌, ◌≤◌, not, if◌then◌else◌, Bool, false, ℤ, pos, neg_ℤ, Option, None, Some, length}
use Rattle.acas_base.specs.Encounter.{Parts}
use Rattle.flight.specs.Flight.{position}
use Rattle.flight.specs.Inside.{IsInBox, is_between, is_in_box}
use Rattle.flight.specs.declared.place.Place.{Place}
use Rattle.fault_text.specs.declared.leaving.Axis.{Axis}
use Rattle.fault_text.specs.declared.leaving.Axis.TheVariants as axis
use Rattle.fault_text.specs.declared.leaving.Leaving.{Leaving}

-- What a place has on an axis. It is in ft, the altitude in 1/60 ft.
abbrev pub on_axis : Axis → Place → ℤ
on_axis axis.X p = p.x
on_axis axis.Y p = p.y
on_axis axis.Altitude p = p.z

-- The box has this number on an axis.
abbrev pub is_held : Axis → ℤ → Bool
is_held axis.Altitude n = is_between (neg_ℤ (pos 60000)) (pos 3600000) n
is_held other n = is_between (neg_ℤ (pos 1000000)) (pos 1000000) n

-- The first axis on which a place isn't in the box. x stands before y, and y before the altitude.
abbrev pub out_on : Place → Option Axis
out_on p =
    if not (is_held axis.X p.x) then Some axis.X else
    if not (is_held axis.Y p.y) then Some axis.Y else
    if not (is_held axis.Altitude p.z) then Some axis.Altitude else None

-- An aircraft isn't in the box in a cycle of the run, and it is in the box in each cycle before.
pub record LeavesIn (e : Parts) (craft cycle : ℕ) (axis : Axis) : Type 0 where
  pub begun : 1 ≤ cycle
  pub in_run : cycle ≤ e.cycles
  pub outside : is_in_box (position e craft cycle) ≡ false
  pub out : out_on (position e craft cycle) ≡ Some axis
  pub before : (k : ℕ) → 1 ≤ k → k < cycle → IsInBox (position e craft k)

-- It is in the box in each cycle of the run.
abbrev pub Stays : Parts → ℕ → Type 0
Stays e craft = (k : ℕ) → 1 ≤ k → k ≤ e.cycles → IsInBox (position e craft k)

-- The first aircraft, by index, that isn't in the box in some cycle of the run; the first such cycle; the first axis;
-- and what its place has on it.
pub record LeavesFirst (e : Parts) (now : Leaving) : Type 0 where
  pub known : now.craft < length e.crafts
  pub leaves : LeavesIn e now.craft now.cycle now.axis
  pub value : now.value ≡ on_axis now.axis (position e now.craft now.cycle)
  pub others : (craft : ℕ) → craft < now.craft → Stays e craft
