-- How a place is drawn.
use Rattle.std.specs.Prelude.{ℕ, ◌≤◌, ◌^◌, ◌==◌, List, filter, nat_le, unsigned_abs}
use Rattle.acas_base.specs.declared.craft.Leg.{Leg}
use Rattle.flight.specs.declared.place.Place.{Place}

-- A place that numbers of 64 bits can reckon with.
pub record IsNear (p : Place) : Type 0 where
  pub x : unsigned_abs p.x ≤ 2 ^ 50
  pub y : unsigned_abs p.y ≤ 2 ^ 50
  pub z : unsigned_abs p.z ≤ 2 ^ 50

-- The legs of an aircraft that have begun in a cycle.
abbrev pub begun_legs : ℕ → ℕ → List Leg → List Leg
begun_legs craft cycle legs = filter (λ (leg : Leg). nat_le leg.from cycle) (filter (λ (leg : Leg). leg.craft == craft) legs)
