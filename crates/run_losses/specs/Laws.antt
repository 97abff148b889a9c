-- What holds of each loss of a run.
use Rattle.std.specs.Prelude.{◌<◌, ◌≤◌, List, length}
use Rattle.acas_base.specs.Encounter.{Parts}
use Rattle.acas_base.specs.declared.entry.Entry.{Entry}
use Rattle.air_rules.specs.Journal.{sends}
use Rattle.variants.specs.declared.change.Change.{Change}
use Rattle.variants.specs.declared.change.Change.TheVariants.{Exchanged, Lost, Shifted}
use Rattle.variants.specs.declared.change.Loss.{Loss}

-- All lost messages were sent, by an aircraft to an aircraft.
pub record WereSent (e : Parts) (journal : List Entry) (loss : Loss) : Type 0 where
  pub sender : loss.sender < length e.crafts
  pub receiver : loss.receiver < length e.crafts
  pub first : 1 ≤ loss.first
  pub order : loss.first ≤ loss.last
  pub last : loss.last ≤ sends journal loss.sender loss.receiver

-- The change is a loss of such messages.
abbrev pub IsOfRun : Parts → List Entry → Change → Type 0
IsOfRun e journal (Shifted shift) = ⊥
IsOfRun e journal (Lost loss) = WereSent e journal loss
IsOfRun e journal (Exchanged pair) = ⊥
