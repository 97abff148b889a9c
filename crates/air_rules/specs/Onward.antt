-- A legal journal that isn't complete goes on.
use Rattle.std.specs.Prelude.{◌⊎◌, ℕ, Bool, List}
use Rattle.acas_base.specs.declared.advisory.Cells.{Cells}
use Rattle.acas_base.specs.declared.entry.Entry.{Entry}
use Rattle.air_rules.specs.Air.{Air}
use Rattle.air_rules.specs.Due.{NobodyIsDue}
use Rattle.air_rules.specs.Owed.{NobodyOwes}
use Rattle.air_rules.specs.Rules.{MayCommit, MaySend, MayTake, IsComplete}

-- Some entry is allowed next: a send where somebody owes; else a take where something is due; else the commit of an
-- aircraft with the fewest commits.
pub data GoesOn (air : Air) (journal : List Entry) : Type 0 where
  by_send : (own target number word : ℕ) → MaySend air journal own target number word → GoesOn air journal
  by_take : NobodyOwes air journal → (own send copy : ℕ) (good : Bool) → MayTake air journal own send copy good → GoesOn air journal
  by_commit : NobodyOwes air journal → NobodyIsDue air journal → (own cycle : ℕ) (cells : Cells) → MayCommit air journal own cycle cells → GoesOn air journal

abbrev pub IsNeverStuck : Air → List Entry → Type 0
IsNeverStuck air journal = IsComplete air journal ⊎ GoesOn air journal
