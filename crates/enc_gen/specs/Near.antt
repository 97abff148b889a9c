-- How far the aircraft of a generated encounter come.
use Rattle.std.specs.Prelude.{ℕ, ◌+◌, ◌<◌, ◌≤◌, pos, length}
use Rattle.acas_base.specs.Encounter.{Parts}
use Rattle.acas_base.specs.Ranges.{IsBetween, IsWithin}
use Rattle.acas_base.specs.declared.setting.Profile.{Profile}
use Rattle.enc_gen.specs.Passing.{most_aside}
use Rattle.flight.specs.Flight.{position}
use Rattle.flight.specs.declared.place.Place.{Place}

-- How far from zero x and y may come, in ft.
abbrev pub reach : Profile → ℕ
reach profile = 60000 + most_aside profile

-- x and y within so many ft of zero, and an altitude of 1,600 to 38,300 ft, exactly in 1/60 ft.
pub record IsNear (size : ℕ) (p : Place) : Type 0 where
  pub x : IsWithin size p.x
  pub y : IsWithin size p.y
  pub z : IsBetween (pos 96000) (pos 2298000) p.z

-- Every aircraft is there in every cycle of the run.
abbrev pub StaysNear : ℕ → Parts → Type 0
StaysNear size e = (craft cycle : ℕ) → craft < length e.crafts → 1 ≤ cycle → cycle ≤ e.cycles → IsNear size (position e craft cycle)
