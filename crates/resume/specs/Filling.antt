-- How a journal that was begun goes on.
use Rattle.std.specs.Prelude.{◌≡◌, ℕ, ◌<◌, Bool, true, List, ◌∷◌}
use Rattle.acas_base.specs.declared.entry.Entry.{Entry}
use Rattle.acas_base.specs.declared.entry.Entry.TheVariants.{Send, Take}
use Rattle.air_rules.specs.Air.{Air, is_active}
use Rattle.air_rules.specs.Due.{IsFirstDue, NothingDue}
use Rattle.air_rules.specs.Owed.{NobodyOwes, OwesNothing}
use Rattle.air_rules.specs.Rules.{IsAllowed, MaySend, MayTake}
use Rattle.air_rules.specs.Serial.{ComesNext}

-- The entry that comes next in the serial order isn't allowed yet.
pub record IsHeldUp (air : Air) (journal : List Entry) : Type 0 where
  pub entry : Entry
  pub next : ComesNext air journal entry
  pub not_yet : IsAllowed air journal entry → ⊥

-- The first owed message, by sender and receiver.
pub record IsFirstSend (air : Air) (journal : List Entry) (own target number word : ℕ) : Type 0 where
  pub allowed : MaySend air journal own target number word
  pub first : (before : ℕ) → before < own → OwesNothing air journal before

-- The first due copy, by receiver, position and copy. Nobody owes a message.
pub record IsFirstTake (air : Air) (journal : List Entry) (own send copy : ℕ) (good : Bool) : Type 0 where
  pub nobody_owes : NobodyOwes air journal
  pub allowed : MayTake air journal own send copy good
  pub first : (before : ℕ) → before < own → is_active air before ≡ true → NothingDue air journal before
  pub first_due : IsFirstDue air journal own send copy

-- The next entry of a filling. It is the next one of the serial order, where that is allowed; else the first owed
-- message; else the first due copy.
pub data FillsNext (air : Air) (journal : List Entry) : Entry → Type 0 where
  in_order : {entry : Entry} → ComesNext air journal entry → IsAllowed air journal entry → FillsNext air journal entry
  by_send : {own target number word : ℕ} → IsHeldUp air journal → IsFirstSend air journal own target number word → FillsNext air journal (Send own target number word)
  by_take : {own send copy : ℕ} {good : Bool} → IsHeldUp air journal → IsFirstTake air journal own send copy good → FillsNext air journal (Take own send copy good)

-- From a journal on, each entry is the one that comes next.
pub data Fills (air : Air) (first : List Entry) : List Entry → Type 0 where
  unfilled : Fills air first first
  filled_by : {entry : Entry} {earlier : List Entry} → Fills air first earlier → FillsNext air earlier entry → Fills air first (entry ∷ earlier)

-- The filling goes on until nothing comes next in the serial order.
pub record IsFilled (air : Air) (first journal : List Entry) : Type 0 where
  pub steps : Fills air first journal
  pub ended : (entry : Entry) → ComesNext air journal entry → ⊥
