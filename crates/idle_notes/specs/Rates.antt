-- Which legs have no effect.
use Rattle.std.specs.Prelude.{ℕ, ◌+◌, ◌-◌, ◌&&◌, nat_le, if◌then◌else◌, Bool, ◌-ℤ◌}
use Rattle.std.specs.Ordering.{int_eq}
use Rattle.acas_base.specs.Encounter.{Parts}
use Rattle.flight.specs.Flight.{nowhere, position}
use Rattle.flight.specs.declared.place.Place.{Place}

-- How far one place is from another one, axis by axis.
abbrev pub between : Place → Place → Place
between p q = record { x = q.x -ℤ p.x; y = q.y -ℤ p.y; z = q.z -ℤ p.z }

-- How far an aircraft moves from a cycle to the next one. These are the rates of its leg that began last.
abbrev pub movement : Parts → ℕ → ℕ → Place
movement e craft cycle = between (position e craft cycle) (position e craft (cycle + 1))

-- How far it moved before that cycle. Before cycle 1 it stands.
abbrev pub movement_before : Parts → ℕ → ℕ → Place
movement_before e craft cycle = if nat_le cycle 1 then nowhere else movement e craft (cycle - 1)

abbrev pub are_same : Place → Place → Bool
are_same a b = int_eq a.x b.x && int_eq a.y b.y && int_eq a.z b.z

-- The leg that begins in a cycle has the rates of before.
abbrev pub keeps_rates : Parts → ℕ → ℕ → Bool
keeps_rates e craft from = are_same (movement e craft from) (movement_before e craft from)
