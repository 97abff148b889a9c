-- What contracts see of the shared journal and of its seats.
use Rattle.std.specs.Prelude.{◌≡◌, ℕ, ◌+◌, ◌<◌, ◌≤◌, ◌⊎◌, List, [], ◌∷◌, All, length, map, max, slice_get, Some}
use Rattle.std.specs.List.Sorted.{IsPermutation}
use Rattle.acas_base.specs.Encounter.{IsEncounter, Parts}
use Rattle.acas_base.specs.declared.entry.Entry.{Entry}
use Rattle.acas_base.specs.declared.view.Picture.{Picture}
use Rattle.air_journal.specs.Airs.{air_of}
use Rattle.air_journal.specs.Calls.{Commits, Sends, Takes}
use Rattle.air_journal.specs.declared.answers.Commit.{Commit}
use Rattle.air_journal.specs.declared.answers.Sent.{Sent}
use Rattle.air_journal.specs.declared.answers.Took.{Took}
use Rattle.air_rules.specs.Journal.{Begins, commits, entries_of}
use Rattle.air_rules.specs.Rules.{IsLegal}
use Rattle.atomic_table.specs.Seated.{TableId}
use Rattle.craft_view.specs.Kept.{IsActive}
use Rattle.craft_view.specs.Views.{picture_of}
use Rattle.flight.specs.Inside.{IsInside}
use Rattle.air_turn.specs.Totals.{total}
pub use Rattle.air_turn.specs.Rule.{active_of}

-- The shared journal: which table it lies in, and its encounter.
pub record SharedAir : Type 0 where
  pub table : TableId
  pub encounter : Parts

-- A seat: the table of its shared journal, its aircraft, the encounter, the journal that it has last seen, and how many
-- calls it has made. `count` is the number, from 1, of the latest call that it knows of, among the calls of all seats.
pub record SeatState : Type 0 where
  pub table : TableId
  pub own : ℕ
  pub encounter : Parts
  pub front : List Entry
  pub made : ℕ
  pub count : ℕ

-- What holds of every seat.
pub record IsSeat (seat : SeatState) : Type 0 where
  pub valid : IsEncounter seat.encounter
  pub inside : IsInside seat.encounter
  pub active : IsActive seat.encounter seat.own
  pub legal : IsLegal (air_of seat.encounter) seat.front

-- The seats at the start, one for each of these aircraft.
abbrev pub first_seats : TableId → Parts → List Entry → List ℕ → List SeatState
first_seats table e journal owns = map (λ own. record { table = table; own = own; encounter = e; front = journal; made = 0; count = 0 }) owns

-- The picture is that of the aircraft's next cycle, where it has cycles left.
abbrev pub IsNextPicture : SeatState → Picture → Type 0
IsNextPicture seat picture = commits seat.front seat.own < seat.encounter.cycles → picture ≡ picture_of seat.encounter seat.own (commits seat.front seat.own + 1)

-- It is still the same seat.
pub record IsSameSeat (old new : SeatState) : Type 0 where
  pub table : new.table ≡ old.table
  pub own : new.own ≡ old.own
  pub encounter : new.encounter ≡ old.encounter

-- The journal that a call sees is legal. It begins with what the seat had seen, and has no other entries of its
-- aircraft.
pub record CallSees (seat : SeatState) (journal : List Entry) : Type 0 where
  pub legal : IsLegal (air_of seat.encounter) journal
  pub front : Begins seat.front journal
  pub own : entries_of seat.front seat.own ≡ entries_of journal seat.own

-- A call of a seat. `Does` relates the journal that the call sees to the journal after it. After the call the seat has
-- seen the journal after it, has made one call more, and knows of a later call.
pub record Called (old : SeatState) (Does : List Entry → List Entry → Type 0) (new : SeatState) : Type 0 where
  pub journal : List Entry
  pub sees : CallSees old journal
  pub does : Does journal new.front
  pub made : new.made ≡ old.made + 1
  pub count : old.count < new.count
  pub same : IsSameSeat old new

-- The answers are those of `AirState`, over the journal that the call sees.
abbrev pub CommitsIn : SeatState → Commit → SeatState → Type 0
CommitsIn old answer new = Called old (λ journal after. Commits (air_of old.encounter) journal old.own after answer) new

abbrev pub SendsIn : SeatState → Sent → SeatState → Type 0
SendsIn old answer new = Called old (λ journal after. Sends (air_of old.encounter) journal old.own after answer) new

abbrev pub TakesIn : SeatState → Took → SeatState → Type 0
TakesIn old answer new = Called old (λ journal after. Takes (air_of old.encounter) journal old.own after answer) new

-- The seat has seen what it and the other seat had seen, and no other entry of its own aircraft.
pub record Learns (old other new : SeatState) : Type 0 where
  pub legal : IsLegal (air_of new.encounter) new.front
  pub begins_own : Begins old.front new.front
  pub begins_other : Begins other.front new.front
  pub one_of : (new.front ≡ old.front) ⊎ (new.front ≡ other.front)
  pub own : entries_of new.front old.own ≡ entries_of old.front old.own
  pub count : new.count ≡ max old.count other.count
  pub made : new.made ≡ old.made
  pub same : IsSameSeat old new

-- This is a seat of this shared journal.
pub record IsSeatOf (air : SharedAir) (seat : SeatState) : Type 0 where
  pub table : seat.table ≡ air.table
  pub encounter : seat.encounter ≡ air.encounter

abbrev pub owns_of : List SeatState → List ℕ
owns_of seats = map (λ (seat : SeatState). seat.own) seats

-- These are all seats of the shared journal, in any order. Each active aircraft has exactly one.
pub record AreAllSeats (air : SharedAir) (seats : List SeatState) : Type 0 where
  pub of : All (IsSeatOf air) seats
  pub owns : IsPermutation (owns_of seats) (active_of air.encounter)

-- What each seat had seen begins the journal, and has all entries of its aircraft.
abbrev pub FrontsFit : List Entry → List SeatState → Type 0
FrontsFit journal [] = Unit {0}
FrontsFit journal (seat ∷ seats) = (Begins seat.front journal × (entries_of journal seat.own ≡ entries_of seat.front seat.own)) × FrontsFit journal seats

-- How many calls the seats have made.
abbrev pub calls_made : List SeatState → ℕ
calls_made seats = total (λ (seat : SeatState). seat.made) seats

abbrev pub NoneBeyond : ℕ → List SeatState → Type 0
NoneBeyond n [] = Unit {0}
NoneBeyond n (seat ∷ seats) = (seat.count ≤ n) × NoneBeyond n seats

abbrev pub SomeAt : ℕ → List SeatState → Type 0
SomeAt n seats = (k : ℕ) × (seat : SeatState) × (slice_get seats k ≡ Some seat) × (seat.count ≡ n)

-- What the seats say of the journal when all calls have ended. The number of calls that they made is the greatest of
-- their counts. A seat that knows of a later call has seen no less than another one.
pub record Closes (seats : List SeatState) (journal : List Entry) : Type 0 where
  pub fronts : FrontsFit journal seats
  pub none_beyond : NoneBeyond (calls_made seats) seats
  pub greatest : SomeAt (calls_made seats) seats
  pub order : (j k : ℕ) (s t : SeatState) → slice_get seats j ≡ Some s → slice_get seats k ≡ Some t → t.count ≤ s.count → length t.front ≤ length s.front
