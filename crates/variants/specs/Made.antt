-- Of which parts a variant is made.
use Rattle.std.specs.Prelude.{◌≡◌, List, MatchOption, Option}
use Rattle.acas_base.specs.Encounter.{IsEncounter, Parts, encounter_of, setting_of}
use Rattle.acas_base.specs.declared.craft.CraftSpec.{CraftSpec}
use Rattle.acas_base.specs.declared.craft.Leg.{Leg}
use Rattle.acas_base.specs.declared.link.Fate.{Fate}
use Rattle.flight.specs.Inside.{IsInside}

-- The parts of an encounter, but with these aircraft, legs and fates.
abbrev pub with_parts : Parts → List CraftSpec → List Leg → List Fate → Parts
with_parts e crafts legs fates = encounter_of (setting_of e) e.calls crafts legs e.misses e.plans fates

-- These parts are an encounter whose aircraft stay in the box.
pub record IsFit (d : Parts) : Type 0 where
  pub encounter : IsEncounter d
  pub inside : IsInside d

-- The encounter of these parts, or none where they are no encounter, or an aircraft leaves the box.
abbrev pub IsMade : Parts → Option Parts → Type 0
IsMade parts answer = MatchOption answer (IsFit parts → ⊥) (λ (d : Parts). (d ≡ parts) × IsFit d)
