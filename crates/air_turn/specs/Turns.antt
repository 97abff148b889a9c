-- What a seat knows at the beginning and at the end of its turn, and when the seats are joined.
use Rattle.std.specs.Prelude.{◌≡◌, ℕ, ◌+◌, ◌%◌, List, [], map, Option, None}
use Rattle.acas_base.specs.Encounter.{IsEncounter, Parts}
use Rattle.acas_base.specs.declared.entry.Entry.{Entry}
use Rattle.air_journal.specs.States.{IsJournalOf, State}
use Rattle.air_journal.specs.declared.answers.Commit.{Commit}
use Rattle.air_journal.specs.declared.answers.Commit.TheVariants as commit
use Rattle.air_journal.specs.declared.answers.Sent.{Sent}
use Rattle.air_journal.specs.declared.answers.Sent.TheVariants as sent
use Rattle.air_journal.specs.declared.answers.Took.{Took}
use Rattle.air_journal.specs.declared.answers.Took.TheVariants as took
use Rattle.atomic_table.specs.Seated.{TableId}
use Rattle.atomic_table.specs.declared.shared.Seat.{Seat}
use Rattle.air_turn.specs.declared.view.TheConstants.{WORDS}
use Rattle.air_turn.specs.declared.view.Claim.{Claim}
use Rattle.air_turn.specs.declared.view.Knowledge.{Knowledge}
use Rattle.air_turn.specs.declared.view.Stage.{Stage}
use Rattle.air_turn.specs.declared.view.Stage.TheVariants.{Idle, Waits, Holds}
use Rattle.air_turn.specs.Rule.{Grows, knowledge}
use Rattle.air_turn.specs.Seats.{IsSeat, SeatState}
use Rattle.air_turn.specs.Told.{Sees, KnownAndHeld, called, first, holding, resting}

abbrev pub seat_of_claim : TableId → Parts → Claim → SeatState
seat_of_claim table e c = record { table = table; own = c.own; encounter = e; front = c.seen.front; made = c.made; count = c.seen.count }

abbrev pub seat_of : Seat (Option State) Knowledge → SeatState
seat_of p = seat_of_claim p.table_id p.me.0.encounter (first p.me.0.claims)

-- The table has its words and one slot, and the encounter is one.
pub record IsOpen (table : TableId) (e : Parts) : Type 0 where
  pub words : table.words ≡ WORDS
  pub slots : table.slots ≡ 1
  pub valid : IsEncounter e

-- Between two calls the place at the table has the claim of the seat's aircraft, and no more.
pub record Rests (own : ℕ) (p : Seat (Option State) Knowledge) : Type 0 where
  pub idle : p.me ≡ resting p.me.0.encounter (first p.me.0.claims)
  pub own_is : own ≡ (first p.me.0.claims).own
  pub seat : IsSeat (seat_of p)

abbrev pub ticket_of : Stage → ℕ
ticket_of Idle = 0
ticket_of (Waits k) = k
ticket_of (Holds k journal n) = k

abbrev pub journal_of : Stage → List Entry
journal_of (Holds k journal n) = journal
journal_of _ = []

abbrev pub calls_of : Stage → ℕ
calls_of (Holds k journal n) = n
calls_of _ = 0

-- The number of the seat's ticket, as a word of the table has it.
abbrev pub HasTicket : KnownAndHeld → ℕ → Type 0
HasTicket m ticket = ticket ≡ ticket_of m.0.stage % 18446744073709551616

-- The seat has the turn, and has taken the state out of its slot.
pub record HasTurn (old new : KnownAndHeld) (drawn : ℕ) (state : State) : Type 0 where
  pub ticket : ℕ
  pub calls : ℕ
  pub drawn_is : drawn ≡ ticket % 18446744073709551616
  pub new_is : new ≡ holding old.0.encounter (first old.0.claims) ticket state.journal calls None
  pub encounter : state.encounter ≡ old.0.encounter
  pub sees : Sees old.0.encounter (first old.0.claims) state.journal calls

-- The seat has the turn and the state. The state's journal has grown from the journal of the turn.
pub record GoneOn (m : KnownAndHeld) (state : State) (grew : ℕ) : Type 0 where
  pub turn : m ≡ holding m.0.encounter (first m.0.claims) (ticket_of m.0.stage) (journal_of m.0.stage) (calls_of m.0.stage) None
  pub encounter : state.encounter ≡ m.0.encounter
  pub stays_a_state : IsJournalOf state.encounter state.journal
  pub grows : Grows (first m.0.claims).own (journal_of m.0.stage) state.journal grew

-- The claim of the seat after this turn.
abbrev pub claim_after : KnownAndHeld → State → Claim
claim_after m state = called (first m.0.claims) state.journal (calls_of m.0.stage + 1)

-- The call has ended, and the seat still has the turn.
pub record Ended (old : KnownAndHeld) (state : State) (new : KnownAndHeld) : Type 0 where
  pub new_is : new ≡ holding old.0.encounter (claim_after old state) (ticket_of old.0.stage) state.journal (calls_of old.0.stage + 1) None

-- How many entries a call has added to the journal.
abbrev pub commit_growth : Commit → ℕ
commit_growth (commit.Done position) = 1
commit_growth _ = 0

abbrev pub send_growth : Sent → ℕ
send_growth (sent.Done position) = 1
send_growth sent.Nothing = 0

abbrev pub take_growth : Took → ℕ
take_growth (took.Done position good) = 1
take_growth took.Nothing = 0

-- The place at the table that took over the claims of all these seats.
pub record Gathers (table : TableId) (m : KnownAndHeld) (seats : List SeatState) : Type 0 where
  pub idle : m ≡ (knowledge m.0.encounter Idle m.0.claims [], [])
  pub all : map (seat_of_claim table m.0.encounter) m.0.claims ≡ seats
