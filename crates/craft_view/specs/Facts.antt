-- What every view keeps, for those who decide by it.
use Rattle.std.specs.Prelude.{◌≡◌, ◌↔◌, ℕ, ◌≤◌, true, None, Some, length, option_map, slice_get, is_some, IsTrue}
use Rattle.acas_base.specs.Encounter.{Parts}
use Rattle.acas_base.specs.Limits.{LimitsAskForOwnRate}
use Rattle.acas_base.specs.declared.craft.CraftSpec.{CraftSpec}
use Rattle.acas_base.specs.declared.craft.Kind.TheVariants.{Ra}
use Rattle.acas_base.specs.declared.level.Level.{Level}
use Rattle.acas_base.specs.declared.setting.Profile.TheVariants as profiles
use Rattle.acas_base.specs.declared.view.View.{View}
use Rattle.craft_view.specs.Own.{bounds_above}
use Rattle.craft_view.specs.Sight.{other_craft, rank_of, sight_of}
use Rattle.craft_view.specs.Views.{no_view, view_of}
use Rattle.sens_table.specs.Above.{level_of}

-- The sensitivity level of an aircraft in a cycle.
abbrev pub level_in : Parts → ℕ → ℕ → Level
level_in e own cycle = level_of (bounds_above (sight_of e own cycle))

-- The aircraft gives resolution advisories in a cycle: it is of that kind, and its level is above 2.
pub record Resolves (e : Parts) (own cycle : ℕ) : Type 0 where
  pub kind : option_map (λ (craft : CraftSpec). craft.kind) (slice_get e.crafts own) ≡ Some Ra
  pub level : 3 ≤ (level_in e own cycle).sl

-- A threat is only seen where the pair is tested and own aircraft resolves.
pub record IsSeenAsThreat (view : View) : Type 0 where
  pub tested : view.tested ≡ true
  pub resolves : view.resolves ≡ true

abbrev pub Threatens : Parts → ℕ → ℕ → ℕ → Type 0
Threatens e own target cycle = (view_of e own target cycle).threat ≡ true → IsSeenAsThreat (view_of e own target cycle)

-- The view of another aircraft resolves exactly where own aircraft does.
abbrev pub ResolvesAsOwn : Parts → ℕ → ℕ → ℕ → Type 0
ResolvesAsOwn e own target cycle = IsTrue (is_some (other_craft e own target)) → IsTrue (view_of e own target cycle).resolves ↔ Resolves e own cycle

-- In the own place, and past the last aircraft, nothing is seen.
abbrev pub SeesNothing : Parts → ℕ → ℕ → ℕ → Type 0
SeesNothing e own target cycle = other_craft e own target ≡ None → view_of e own target cycle ≡ no_view

-- In profile 1 a limit that own rate meets separates as the weakest one does.
abbrev pub MeetsLimits : Parts → ℕ → ℕ → ℕ → Type 0
MeetsLimits e own target cycle = e.profile ≡ profiles.One → LimitsAskForOwnRate (view_of e own target cycle)

-- An aircraft has the same sight up to a cycle in two encounters.
abbrev pub SeesAlike : Parts → Parts → ℕ → ℕ → Type 0
SeesAlike e f own cycle = sight_of e own cycle ≡ sight_of f own cycle

-- It then sees the same in each cycle up to that one, has the same ranks, and is one of as many aircraft.
pub record IsAlike (e f : Parts) (own cycle : ℕ) : Type 0 where
  pub views : (target k : ℕ) → k ≤ cycle → view_of e own target k ≡ view_of f own target k
  pub ranks : (target : ℕ) → rank_of e own target ≡ rank_of f own target
  pub count : length e.crafts ≡ length f.crafts
