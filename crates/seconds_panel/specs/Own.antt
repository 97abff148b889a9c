-- Which of two aircraft is own aircraft of the panel.
use Rattle.std.specs.Prelude.{ℕ, ◌<◌, Bool, false, if◌then◌else◌, List, length, slice_get, Option, Some, None}
use Rattle.std.specs.Option.{option_map_or}
use Rattle.acas_base.specs.Encounter.{Parts, is_active_at, is_ra_kind}
use Rattle.acas_base.specs.declared.craft.CraftSpec.{CraftSpec}
use Rattle.craft_view.specs.Kept.{IsActive}
use Rattle.seconds_panel.specs.declared.own.TestedPair.{TestedPair}

-- There is an aircraft at the index, and it gives resolution advisories.
abbrev pub resolves_at : List CraftSpec → ℕ → Bool
resolves_at crafts craft = option_map_or (λ (it : CraftSpec). is_ra_kind it.kind) (slice_get crafts craft) false

abbrev pub tested : ℕ → ℕ → TestedPair
tested own other = record { own = own; other = other }

-- The first one of two that is active.
abbrev pub active_of : Parts → ℕ → ℕ → Option TestedPair
active_of e one other = if is_active_at e.crafts one then Some (tested one other) else if is_active_at e.crafts other then Some (tested other one) else None

-- The first one that gives resolution advisories; where neither does, the first one that is active.
unfoldable pub own_of : Parts → ℕ → ℕ → Option TestedPair
own_of e one other = if resolves_at e.crafts one then Some (tested one other) else if resolves_at e.crafts other then Some (tested other one) else active_of e one other

-- Both are aircraft of the encounter, and own aircraft is active.
pub record AreTested (e : Parts) (pair : TestedPair) : Type 0 where
  pub own : pair.own < length e.crafts
  pub other : pair.other < length e.crafts
  pub active : IsActive e pair.own
