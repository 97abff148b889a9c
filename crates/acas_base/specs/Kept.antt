-- What an encounter keeps, as its parts.
use Rattle.acas_base.specs.Encounter.{Parts, encounter_of}
use Rattle.acas_base.specs.declared.encounter.Encounter.TheInside.{Inside}

abbrev pub parts_of : Inside → Parts
parts_of e = encounter_of e.setting e.calls.items e.crafts.items e.legs.items e.misses.items e.plans.items e.fates.items
