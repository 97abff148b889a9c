-- Two encounters that are alike in all but a few things.
use Rattle.std.specs.Prelude.{◌≡◌, ℕ, ◌≤◌, pos, length, option_map, slice_get}
use Rattle.acas_base.specs.Encounter.{Parts}
use Rattle.acas_base.specs.declared.craft.CraftSpec.{CraftSpec}
use Rattle.flight.specs.Flight.{position}

-- Two encounters are alike but for fates and plans, which say what becomes of messages. Their formats may differ, since
-- the first one has no plans.
pub record AreAlikeButFates (e f : Parts) : Type 0 where
  pub profile : e.profile ≡ f.profile
  pub cycles : e.cycles ≡ f.cycles
  pub elevation : e.elevation ≡ f.elevation
  pub range : e.range ≡ f.range
  pub altitude : e.altitude ≡ f.altitude
  pub crafts : e.crafts ≡ f.crafts
  pub legs : e.legs ≡ f.legs
  pub misses : e.misses ≡ f.misses

-- An aircraft without the place from which it flies.
abbrev pub without_place : CraftSpec → CraftSpec
without_place craft = record craft { x = pos 0; y = pos 0; alt = pos 0 }

-- Two encounters fly alike up to a cycle. All is the same but what an aircraft flies later. Up to this cycle it is at
-- the same places, by whatever legs.
pub record FlyAlikeUpTo (e f : Parts) (last : ℕ) : Type 0 where
  pub profile : e.profile ≡ f.profile
  pub cycles : e.cycles ≡ f.cycles
  pub elevation : e.elevation ≡ f.elevation
  pub range : e.range ≡ f.range
  pub altitude : e.altitude ≡ f.altitude
  pub count : length e.crafts ≡ length f.crafts
  pub crafts : (index : ℕ) → option_map without_place (slice_get e.crafts index) ≡ option_map without_place (slice_get f.crafts index)
  pub places : (index cycle : ℕ) → 1 ≤ cycle → cycle ≤ last → position e index cycle ≡ position f index cycle
  pub misses : e.misses ≡ f.misses
  pub plans : e.plans ≡ f.plans
  pub fates : e.fates ≡ f.fates
