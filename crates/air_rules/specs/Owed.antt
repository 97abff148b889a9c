-- What an aircraft owes after a commit (ICAO Annex 10 vol. IV, 4.3).
use Rattle.std.specs.Prelude.{◌≡◌, ℕ, ◌<◌, Bool, false, not, ◌&&◌, if◌then◌else◌, ◌==◌, List, [], ◌∷◌, Option, Some, None}
use Rattle.acas_base.specs.Messages.{has_many, message_for}
use Rattle.acas_base.specs.declared.advisory.ResMsg.{ResMsg}
use Rattle.acas_base.specs.declared.advisory.Vrc.{Vrc}
use Rattle.acas_base.specs.declared.advisory.Vrc.TheVariants.{Nil}
use Rattle.acas_base.specs.declared.entry.Entry.{Entry}
use Rattle.acas_base.specs.declared.entry.Entry.TheVariants.{Commit, Send, Take}
use Rattle.air_rules.specs.Air.{Air, is_ra}
use Rattle.air_rules.specs.Journal.{last_cell, has_sent}
use Rattle.air_rules.specs.Takes.{complement_read}

-- The complement of the last message that an aircraft sent to another one; Nil where it has sent none.
abbrev pub said : Air → List Entry → ℕ → ℕ → Vrc
said air [] craft other = Nil
said air (Commit own cycle cells ∷ earlier) craft other = said air earlier craft other
said air (Send own target number word ∷ earlier) craft other = if own == craft && target == other then complement_read (air.read word) else said air earlier craft other
said air (Take own send copy good ∷ earlier) craft other = said air earlier craft other

-- The last commit of an aircraft has two or more resolution advisories.
abbrev pub has_many_threats : List Entry → ℕ → Bool
has_many_threats [] craft = false
has_many_threats (Commit own cycle cells ∷ earlier) craft = if own == craft then has_many cells else has_many_threats earlier craft
has_many_threats (Send own target number word ∷ earlier) craft = has_many_threats earlier craft
has_many_threats (Take own send copy good ∷ earlier) craft = has_many_threats earlier craft

-- Both coordinate, and nothing was sent to the other one since the last commit.
abbrev pub may_owe : Air → List Entry → ℕ → ℕ → Bool
may_owe air journal own other = is_ra air own && (is_ra air other && (not (own == other) && not (has_sent journal own other)))

-- The message that an aircraft owes another one.
abbrev pub owed : Air → List Entry → ℕ → ℕ → Option ResMsg
owed air journal own other =
    if may_owe air journal own other
    then message_for (last_cell journal own other) (said air journal own other) (has_many_threats journal own) (air.address own)
    else None

abbrev pub OwesNothing : Air → List Entry → ℕ → Type 0
OwesNothing air journal own = (other : ℕ) → owed air journal own other ≡ None

-- The first aircraft, by index, to which this one owes a message, and the message.
pub record IsFirstOwed (air : Air) (journal : List Entry) (own other : ℕ) (message : ResMsg) : Type 0 where
  pub owes : owed air journal own other ≡ Some message
  pub first : (before : ℕ) → before < other → owed air journal own before ≡ None

abbrev pub NobodyOwes : Air → List Entry → Type 0
NobodyOwes air journal = (own : ℕ) → OwesNothing air journal own
