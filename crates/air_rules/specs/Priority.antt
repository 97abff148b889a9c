-- Who changes its sense and why, how advisories start, and how long two senses can be equal.
use Rattle.std.specs.Prelude.{◌≡◌, ◌≢◌, ◌⊎◌, ℕ, ◌+◌, ◌≤◌, Bool, true, false, ◌&&◌, ◌==◌, List, ◌∷◌, length, Some}
use Rattle.acas_base.specs.Choice.{has_to_reverse}
use Rattle.acas_base.specs.Complements.{forbidden_sense}
use Rattle.acas_base.specs.Senses.{sense_of, has_sense}
use Rattle.acas_base.specs.declared.advisory.Cell.TheVariants.{Ra}
use Rattle.acas_base.specs.declared.advisory.Cells.{Cells}
use Rattle.acas_base.specs.declared.advisory.Intent.{Intent}
use Rattle.acas_base.specs.declared.advisory.Rank.TheVariants.{Second}
use Rattle.acas_base.specs.declared.advisory.Sense.{Sense}
use Rattle.acas_base.specs.declared.entry.Entry.{Entry}
use Rattle.acas_base.specs.declared.entry.Entry.TheVariants.{Commit, Send, Take}
use Rattle.air_rules.specs.Air.{Air, IsSecond, rank_of}
use Rattle.air_rules.specs.Journal.{Begins, cell_at, last_cell, before_last_commit, commits, count_of, entries_after}
use Rattle.air_rules.specs.Runs.{run_began}
use Rattle.air_rules.specs.Settled.{IsPlainLink, TakesInOrder}
use Rattle.air_rules.specs.Takes.{Taken, last_take, complement_from, lapse}

-- An aircraft that gives way changes the sense of an advisory only where the complement in force forbids it the old
-- sense.
abbrev pub YieldsOnlyWhereForbidden : Air → List Entry → Type 0
YieldsOnlyWhereForbidden air journal = (earlier : List Entry) (own other cycle : ℕ) (cells : Cells) (old new : Sense) →
    Begins (Commit own cycle cells ∷ earlier) journal → IsSecond air own other →
    sense_of (last_cell earlier own other) ≡ Some old → sense_of (cell_at cells other) ≡ Some new → old ≢ new →
    forbidden_sense (complement_from air earlier own other) ≡ Some old

-- The advisory had to change its sense, by geometry or since it was in a chase, and it is its first reversal.
pub record IsReversal (air : Air) (earlier : List Entry) (own other : ℕ) (old new : Intent) : Type 0 where
  pub called_for : has_to_reverse old (air.view own other (commits earlier own + 1)) ≡ true
  pub first : old.turned ≡ false
  pub noted : new.turned ≡ true

-- An aircraft that doesn't give way changes the sense of an advisory only by a reversal of its own, once.
abbrev pub ReversesOnce : Air → List Entry → Type 0
ReversesOnce air journal = (earlier : List Entry) (own other cycle : ℕ) (cells : Cells) (old new : Intent) →
    Begins (Commit own cycle cells ∷ earlier) journal → rank_of air own other ≢ Second →
    last_cell earlier own other ≡ Ra old → cell_at cells other ≡ Ra new → old.sense ≢ new.sense → IsReversal air earlier own other old new

-- No advisory starts in the sense that the complement in force forbids. This holds of the aircraft that gives way and
-- of the other one.
abbrev pub StartsAsAllowed : Air → List Entry → Type 0
StartsAsAllowed air journal = (earlier : List Entry) (own other cycle : ℕ) (cells : Cells) (new : Intent) →
    Begins (Commit own cycle cells ∷ earlier) journal → cell_at cells other ≡ Ra new → new.age ≡ 1 →
    forbidden_sense (complement_from air earlier own other) ≢ Some new.sense

-- Two aircraft advise against each other in one sense. The first of them gives way. The present run of the second one
-- began at this position.
pub record HasEqualSenses (air : Air) (journal : List Entry) (own other : ℕ) (sense : Sense) (began : ℕ) : Type 0 where
  pub second : IsSecond air own other
  pub mine : sense_of (last_cell journal own other) ≡ Some sense
  pub theirs : sense_of (last_cell journal other own) ≡ Some sense
  pub run : run_began journal other own sense ≡ Some began

-- Two senses are equal only in one of two cases. The last message that the aircraft that gives way had taken by its
-- last commit was sent before the other one's present run began, or it had lapsed.
abbrev pub IsEqualOnlyUntold : Air → List Entry → Type 0
IsEqualOnlyUntold air journal = (earlier : List Entry) (own other began : ℕ) (sense : Sense) (taken : Taken) →
    Begins earlier journal → HasEqualSenses air earlier own other sense began →
    last_take air (before_last_commit earlier own) own other ≡ Some taken →
    (taken.send ≤ began) ⊎ (taken.commits + lapse ≤ commits (before_last_commit earlier own) own)

-- The other one's run may have begun with its advisory. Then the sense wasn't forbidden to the other one at that
-- commit.
abbrev pub IsEqualOnlyIfAllowed : Air → List Entry → Type 0
IsEqualOnlyIfAllowed air journal = (earlier before : List Entry) (own other cycle : ℕ) (cells : Cells) (sense : Sense) (new : Intent) →
    Begins earlier journal → HasEqualSenses air earlier own other sense (length before) →
    Begins (Commit other cycle cells ∷ before) earlier → cell_at cells own ≡ Ra new → new.age ≡ 1 →
    forbidden_sense (complement_from air before other own) ≢ Some sense

-- The entry is a commit of an aircraft with an advisory against another one in this sense.
abbrev pub advises : ℕ → ℕ → Sense → Entry → Bool
advises craft other sense (Commit own cycle cells) = own == craft && has_sense (cell_at cells other) sense
advises craft other sense (Send own target number word) = false
advises craft other sense (Take own send copy good) = false

-- Take a plain link whose messages are taken in order. Within a run of the sender, the receiver, which gives way, has
-- at most two commits that advise in the run's sense.
abbrev pub IsEqualTwiceAtMost : Air → List Entry → Type 0
IsEqualTwiceAtMost air journal = (own other : ℕ) → IsSecond air own other → IsPlainLink air journal other own → TakesInOrder journal own other →
    (earlier : List Entry) (began : ℕ) (sense : Sense) → Begins earlier journal → run_began earlier other own sense ≡ Some began →
    count_of (advises own other sense) (entries_after earlier began) ≤ 2

pub record HasPriority (air : Air) (journal : List Entry) : Type 0 where
  pub yields : YieldsOnlyWhereForbidden air journal
  pub reverses : ReversesOnce air journal
  pub starts : StartsAsAllowed air journal
  pub untold : IsEqualOnlyUntold air journal
  pub allowed : IsEqualOnlyIfAllowed air journal
  pub twice : IsEqualTwiceAtMost air journal
