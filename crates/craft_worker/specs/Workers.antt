-- The workers of a threaded run, and what they have done when it ends.
use Rattle.std.specs.Prelude.{◌≡◌, ℕ, ◌+◌, ◌<◌, ◌≤◌, true, List, All, length, slice_index_or}
use Rattle.acas_base.specs.Encounter.{Parts}
use Rattle.acas_base.specs.declared.entry.Entry.{Entry}
use Rattle.air_journal.specs.Airs.{air_of}
use Rattle.air_rules.specs.Journal.{commits}
use Rattle.air_rules.specs.Rules.{IsComplete, IsDone, IsLegal}
use Rattle.air_turn.specs.Seats.{AreAllSeats, FrontsFit, IsSameSeat, IsSeatOf, SeatState, SharedAir}
use Rattle.craft_view.specs.Kept.{Belongs}
use Rattle.craft_view.specs.Views.{picture_of}
use Rattle.craft_worker.specs.declared.worker.Worker.{Worker}

-- The journal that the seat has last seen is legal and has every commit of the seat's aircraft. In it the aircraft owes
-- nothing.
pub record HasPlayed (seat : SeatState) : Type 0 where
  pub legal : IsLegal (air_of seat.encounter) seat.front
  pub done : IsDone (air_of seat.encounter) seat.front seat.own

-- All seats of a shared journal have played. Then each journal that has all entries of each seat's aircraft is
-- complete.
abbrev pub CompletesJournal : Type 0
CompletesJournal = (air : SharedAir) (seats : List SeatState) (journal : List Entry) →
    AreAllSeats air seats → All HasPlayed seats → FrontsFit journal seats → IsComplete (air_of air.encounter) journal

-- The aircraft has looked in its next cycle, and the worker has kept the picture.
pub record HasLookedOn (e : Parts) (worker : Worker) : Type 0 where
  pub cycle : worker.craft.cycle ≡ worker.made + 1
  pub picture : worker.picture ≡ picture_of e worker.seat.own (worker.made + 1)

-- The worker of an aircraft of this shared journal and encounter.
pub record IsWorkerOf (air : SharedAir) (e : Parts) (worker : Worker) : Type 0 where
  pub seat : IsSeatOf air worker.seat
  pub encounter : worker.seat.encounter ≡ e
  pub belongs : Belongs e worker.craft
  pub own : worker.craft.own ≡ worker.seat.own

-- It has counted its aircraft's commits. It has looked in the next cycle, where there is one.
pub record IsReady (air : SharedAir) (e : Parts) (worker : Worker) : Type 0 where
  pub is : IsWorkerOf air e worker
  pub made : worker.made ≡ commits worker.seat.front worker.seat.own
  pub in_run : worker.made ≤ e.cycles
  pub looked : worker.made < e.cycles → HasLookedOn e worker

-- Its aircraft has just committed the cycle in which it looked.
pub record HasCommitted (air : SharedAir) (e : Parts) (worker : Worker) : Type 0 where
  pub is : IsWorkerOf air e worker
  pub made : worker.made + 1 ≡ commits worker.seat.front worker.seat.own
  pub left : worker.made < e.cycles
  pub cycle : worker.craft.cycle ≡ worker.made + 1

-- The seat is the same, and its worker is ready again.
pub record GoesOn (air : SharedAir) (e : Parts) (old new : Worker) : Type 0 where
  pub same : IsSameSeat old.seat new.seat
  pub ready : IsReady air e new
  pub done : new.done ≡ old.done

-- It made no commit.
pub record MakesNoCommit (air : SharedAir) (e : Parts) (old new : Worker) : Type 0 where
  pub goes_on : GoesOn air e old new
  pub made : new.made ≡ old.made

-- It worked. Where it says that it is done, its seat has played.
pub record Worked (air : SharedAir) (e : Parts) (old new : Worker) : Type 0 where
  pub same : IsSameSeat old.seat new.seat
  pub ready : IsReady air e new
  pub told : new.done ≡ true → HasPlayed new.seat

-- Each worker has the same seat as before.
abbrev pub EachSame : List Worker → List Worker → Type 0
EachSame ws us = (k : ℕ) (d : Worker) → k < length ws → IsSameSeat (slice_index_or ws k d).seat (slice_index_or us k d).seat

abbrev pub EachWorked : SharedAir → Parts → List Worker → List Worker → Type 0
EachWorked air e ws us = (k : ℕ) (d : Worker) → k < length ws → Worked air e (slice_index_or ws k d) (slice_index_or us k d)

abbrev pub seat_of : Worker → SeatState
seat_of worker = worker.seat
