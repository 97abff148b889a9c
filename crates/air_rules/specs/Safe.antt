-- No aircraft that gives way advises in the sense that is forbidden to it (ICAO Annex 10 vol. IV, 4.3).
use Rattle.std.specs.Prelude.{◌≡◌, ◌≢◌, ℕ, List, ◌∷◌, Some}
use Rattle.acas_base.specs.Complements.{forbidden_sense}
use Rattle.acas_base.specs.Senses.{sense_of}
use Rattle.acas_base.specs.declared.advisory.Cells.{Cells}
use Rattle.acas_base.specs.declared.advisory.Sense.{Sense}
use Rattle.acas_base.specs.declared.entry.Entry.{Entry}
use Rattle.acas_base.specs.declared.entry.Entry.TheVariants.{Commit}
use Rattle.air_rules.specs.Air.{Air, IsSecond}
use Rattle.air_rules.specs.Journal.{Begins, cell_at}
use Rattle.air_rules.specs.Takes.{complement_from}

-- No commit of an aircraft that gives way has an advisory in the sense that the complement in force from the other one
-- forbids.
abbrev pub IsSafe : Air → List Entry → Type 0
IsSafe air journal = (earlier : List Entry) (own other cycle : ℕ) (cells : Cells) (sense : Sense) →
    Begins (Commit own cycle cells ∷ earlier) journal → IsSecond air own other →
    sense_of (cell_at cells other) ≡ Some sense → forbidden_sense (complement_from air earlier own other) ≢ Some sense
