-- What holds where a cause of equal senses is told, in the words of the rules.
use Rattle.std.specs.Prelude.{◌≡◌, ℕ, ◌+◌, ◌<◌, ◌≤◌, true, List, Option, Some, None}
use Rattle.acas_base.specs.declared.advisory.Sense.{Sense}
use Rattle.acas_base.specs.declared.entry.Entry.{Entry}
use Rattle.air_rules.specs.Air.{Air}
use Rattle.air_rules.specs.Journal.{Begins, before_last_commit, commits}
use Rattle.air_rules.specs.Takes.{Taken, lapse, last_take}
use Rattle.journal_reader.specs.Reading.{present_run}
use Rattle.pair_watch.specs.Watching.{cause_of, equal_sense, is_watched}
use Rattle.pair_watch.specs.declared.pair.Cause.{Cause}
use Rattle.pair_watch.specs.declared.pair.Cause.TheVariants.{Untold, Old, Lapsed}

-- The last good take of a message of `low` that `high` made before its last commit, and where the present run of `low`
-- began.
pub record HasTaken (air : Air) (journal : List Entry) (low high : ℕ) (taken : Taken) (began : ℕ) : Type 0 where
  pub last : last_take air (before_last_commit journal high) high low ≡ Some taken
  pub run : present_run journal low high ≡ Some began

-- The message was sent before that run.
pub record IsOld (air : Air) (journal : List Entry) (low high : ℕ) : Type 0 where
  pub taken : Taken
  pub began : ℕ
  pub last : HasTaken air journal low high taken began
  pub before_run : taken.send < began

-- It was sent in that run and has lapsed: `high` made six commits or more between this take and its last commit.
pub record HasLapsed (air : Air) (journal : List Entry) (low high : ℕ) : Type 0 where
  pub taken : Taken
  pub began : ℕ
  pub last : HasTaken air journal low high taken began
  pub in_run : began < taken.send
  pub lapsed : taken.commits + lapse ≤ commits (before_last_commit journal high) high

-- What each cause says.
abbrev pub IsCause : Air → List Entry → ℕ → ℕ → Cause → Type 0
IsCause air journal low high Untold = last_take air (before_last_commit journal high) high low ≡ None
IsCause air journal low high Old = IsOld air journal low high
IsCause air journal low high Lapsed = HasLapsed air journal low high

-- After each beginning of a journal after which the senses of two aircraft that coordinate are equal, the cause that is
-- told holds.
abbrev pub HasTrueCauses : Air → List Entry → Type 0
HasTrueCauses air journal = (earlier : List Entry) (low high : ℕ) (sense : Sense) →
    Begins earlier journal → is_watched air low high ≡ true → equal_sense earlier low high ≡ Some sense →
    IsCause air earlier low high (cause_of air earlier low high)
