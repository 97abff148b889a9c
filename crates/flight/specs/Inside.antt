-- The box. An encounter has to stay in it.
use Rattle.std.specs.Prelude.{ℕ, ◌<◌, ◌≤◌, ◌&&◌, Bool, ℤ, pos, neg_ℤ, int_le, length}
use Rattle.std.specs.List.{list_all, range_with_len}
use Rattle.acas_base.specs.Encounter.{Parts}
use Rattle.acas_base.specs.Ranges.{IsBetween, IsWithin}
use Rattle.flight.specs.Flight.{position}
use Rattle.flight.specs.declared.place.Place.{Place}

-- x and y within 1,000,000 ft of zero, and an altitude of -1,000 to 60,000 ft, exactly in 1/60 ft.
pub record IsInBox (p : Place) : Type 0 where
  pub x : IsWithin 1000000 p.x
  pub y : IsWithin 1000000 p.y
  pub z : IsBetween (neg_ℤ (pos 60000)) (pos 3600000) p.z

-- Every aircraft, whatever its kind, is in the box in every cycle of the run.
abbrev pub IsInside : Parts → Type 0
IsInside e = (craft cycle : ℕ) → craft < length e.crafts → 1 ≤ cycle → cycle ≤ e.cycles → IsInBox (position e craft cycle)

-- A number between two others, as a truth value.
abbrev pub is_between : ℤ → ℤ → ℤ → Bool
is_between low high n = int_le low n && int_le n high

abbrev pub is_in_box : Place → Bool
is_in_box p =
    is_between (neg_ℤ (pos 1000000)) (pos 1000000) p.x && (is_between (neg_ℤ (pos 1000000)) (pos 1000000) p.y && is_between (neg_ℤ (pos 60000)) (pos 3600000) p.z)

unfoldable pub stays_inside : Parts → Bool
stays_inside e = list_all (λ craft. list_all (λ cycle. is_in_box (position e craft cycle)) (range_with_len 1 e.cycles)) (range_with_len 0 (length e.crafts))
