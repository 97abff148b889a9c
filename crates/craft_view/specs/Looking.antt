-- The aircraft of an encounter, which look at each other.
use Rattle.std.specs.Prelude.{◌≡◌, ℕ, ◌+◌, ◌<◌, List, Option, Some, None, slice_index_or, slice_set}
use Rattle.acas_base.specs.Encounter.{Parts}
use Rattle.acas_base.specs.declared.TheConstants.{CRAFTS}
use Rattle.acas_base.specs.declared.view.Picture.{Picture}
use Rattle.craft_view.specs.Kept.{Belongs, IsActive, Kept}
use Rattle.craft_view.specs.Views.{picture_of}
use Rattle.flight.specs.Flight.{Moment}

-- An aircraft of the encounter that has looked so often.
pub record HasLooked (e : Parts) (own looks : ℕ) (craft : Kept) : Type 0 where
  pub belongs : Belongs e craft
  pub own_is : craft.own ≡ own
  pub cycle_is : craft.cycle ≡ looks

-- What stands at the place of an aircraft: what it keeps after so many looks, where it is active; else nothing.
unfoldable pub IsReady : Parts → ℕ → ℕ → Option Kept → Type 0
IsReady e own looks None = IsActive e own → ⊥
IsReady e own looks (Some craft) = HasLooked e own looks craft

-- Each active aircraft has looked as often as this function of its index says.
abbrev pub AreReady : Parts → (ℕ → ℕ) → List (Option Kept) → Type 0
AreReady e looks crafts = (own : ℕ) → own < CRAFTS → IsReady e own (looks own) (slice_index_or crafts own None)

-- Its next look is in the cycle of this moment.
pub record LooksNext (moment : Moment) (own : ℕ) (craft : Kept) : Type 0 where
  pub looks : ℕ
  pub looked : HasLooked moment.encounter own looks craft
  pub next : moment.cycle ≡ looks + 1

abbrev pub MayLook : Moment → ℕ → Option Kept → Type 0
MayLook moment own None = Unit {0}
MayLook moment own (Some craft) = LooksNext moment own craft

-- It looked in the cycle of this moment, and this is its picture.
pub record LookedOn (moment : Moment) (own : ℕ) (old new : List (Option Kept)) (picture : Picture) : Type 0 where
  pub before : Kept
  pub was_there : slice_index_or old own None ≡ Some before
  pub picture_is : picture ≡ picture_of moment.encounter own moment.cycle
  pub craft : Kept
  pub looked : HasLooked moment.encounter own moment.cycle craft
  pub new_is : new ≡ slice_set old own (Some craft)
