-- Once an aircraft that gives way has taken a message of the other one's present run, the two senses are opposite.
use Rattle.std.specs.Prelude.{◌≡◌, ℕ, ◌+◌, ◌<◌, Bool, true, List, [], ◌∷◌, Some}
use Rattle.acas_base.specs.Encounter.{plain_copy}
use Rattle.acas_base.specs.Senses.{other_sense, sense_of}
use Rattle.acas_base.specs.declared.advisory.Cells.{Cells}
use Rattle.acas_base.specs.declared.advisory.Sense.{Sense}
use Rattle.acas_base.specs.declared.entry.Entry.{Entry}
use Rattle.acas_base.specs.declared.entry.Entry.TheVariants.{Commit, Take}
use Rattle.air_rules.specs.Air.{Air, IsSecond}
use Rattle.air_rules.specs.Journal.{Begins, Sent, WasSent, cell_at, last_cell, before_last_commit, commits, sent_at, was_taken}
use Rattle.air_rules.specs.Runs.{run_began}
use Rattle.air_rules.specs.Takes.{Taken, last_take, is_from, lapse}

-- The last good take by an aircraft of a message of the other one before its last commit. It hadn't lapsed at that
-- commit.
pub record IsBoundBy (air : Air) (journal : List Entry) (own other : ℕ) (taken : Taken) : Type 0 where
  pub last : last_take air (before_last_commit journal own) own other ≡ Some taken
  pub in_time : commits (before_last_commit journal own) own < taken.commits + lapse

-- Two aircraft advise against each other. The message that bound the one that gives way was sent in the present run of
-- the other one. Then the senses are opposite.
abbrev pub IsOppositeByTake : Air → List Entry → Type 0
IsOppositeByTake air journal = (earlier : List Entry) (own other began : ℕ) (sense theirs : Sense) (taken : Taken) →
    Begins earlier journal → IsSecond air own other →
    sense_of (last_cell earlier own other) ≡ Some sense → sense_of (last_cell earlier other own) ≡ Some theirs →
    run_began earlier other own theirs ≡ Some began → IsBoundBy air earlier own other taken → began < taken.send →
    sense ≡ other_sense theirs

-- Every message of one aircraft to another one has one copy, which is neither held back nor damaged.
abbrev pub IsPlainLink : Air → List Entry → ℕ → ℕ → Type 0
IsPlainLink air journal sender receiver = (position : ℕ) (sent : Sent) →
    WasSent journal position sender receiver sent → air.copies sent.sender sent.receiver sent.number ≡ plain_copy ∷ []

-- An aircraft takes the messages of another one in the order in which they were sent.
abbrev pub TakesInOrder : List Entry → ℕ → ℕ → Type 0
TakesInOrder journal own other = (earlier : List Entry) (send copy : ℕ) (good : Bool) (send_before copy_before : ℕ) →
    Begins (Take own send copy good ∷ earlier) journal → is_from (sent_at earlier send) other ≡ true →
    was_taken earlier own send_before copy_before ≡ true → is_from (sent_at earlier send_before) other ≡ true → send_before < send

-- Take a plain link whose messages are taken in order. Once the sender has sent a message in its present run, each
-- advisory of the receiver, which gives way, has the opposite sense.
abbrev pub IsOppositeOnPlainLinks : Air → List Entry → Type 0
IsOppositeOnPlainLinks air journal = (own other : ℕ) → IsSecond air own other → IsPlainLink air journal other own → TakesInOrder journal own other →
    (earlier : List Entry) (cycle began position : ℕ) (cells : Cells) (sense theirs : Sense) (sent : Sent) →
    Begins (Commit own cycle cells ∷ earlier) journal →
    sense_of (cell_at cells other) ≡ Some sense → run_began earlier other own theirs ≡ Some began →
    WasSent earlier position other own sent → began < position → sense ≡ other_sense theirs

pub record IsSettled (air : Air) (journal : List Entry) : Type 0 where
  pub by_take : IsOppositeByTake air journal
  pub on_plain_links : IsOppositeOnPlainLinks air journal
