-- The order of the messages to an aircraft.
use Rattle.std.specs.Prelude.{◌≡◌, ◌≢◌, ◌⊎◌, ℕ, ◌<◌, ◌≤◌, Bool, if◌then◌else◌, List, [], ◌∷◌, ◌++◌, length, drop, Option, Some, None, slice_get, slice_index_or}
use Rattle.acas_base.specs.declared.TheConstants.{CRAFTS}
use Rattle.air_journal.specs.Kept.{Kept, queue_at}
use Rattle.air_journal.specs.Queues.{IsIn}
use Rattle.air_journal.specs.declared.kept.Waiting.{Waiting}
use Rattle.air_journal.specs.declared.order.Arrival.{Arrival}
use Rattle.air_journal.specs.declared.tables.Front.{Front}
use Rattle.air_journal.specs.declared.tables.Front.TheVariants.{Waits, Passed, Unknown}

-- The message of this send and sender stands in a list.
abbrev pub Has : List Arrival → ℕ → ℕ → Type 0
Has [] send sender = ⊥
Has (first ∷ rest) send sender = ((first.send ≡ send) × (first.sender ≡ sender)) ⊎ Has rest send sender

-- Each send comes before the next ones.
abbrev pub AreRising : List Arrival → Type 0
AreRising [] = Unit {0}
AreRising (first ∷ rest) = ((send sender : ℕ) → Has rest send sender → first.send < send) × AreRising rest

-- The messages that aren't over, where their order is known.
abbrev pub order_in : Bool → ℕ → List Arrival → Option (List Arrival)
order_in known passed messages = if known then Some (drop passed messages) else None

-- They rise, no send is later than the last one, and each sender is an aircraft's index.
pub record IsOrder (passed last : ℕ) (messages : List Arrival) : Type 0 where
  pub within : passed ≤ length messages
  pub rising : AreRising (drop passed messages)
  pub until : (send sender : ℕ) → Has (drop passed messages) send sender → send ≤ last
  pub senders : (send sender : ℕ) → Has (drop passed messages) send sender → sender < CRAFTS

-- It is the first message, and comes before all others.
pub record IsFront (order : Option (List Arrival)) (arrival : Arrival) : Type 0 where
  pub rest : List Arrival
  pub is : order ≡ Some (arrival ∷ rest)
  pub sender : arrival.sender < CRAFTS
  pub least : (send sender : ℕ) → Has rest send sender → arrival.send < send

abbrev pub rest_of : List Arrival → List Arrival
rest_of [] = []
rest_of (first ∷ rest) = rest

abbrev pub without_front : Option (List Arrival) → Option (List Arrival)
without_front None = None
without_front (Some messages) = Some (rest_of messages)

abbrev pub with_last : Option (List Arrival) → Arrival → Option (List Arrival)
with_last None arrival = None
with_last (Some messages) arrival = Some (messages ++ arrival ∷ [])

-- The message was added at the end, or the order isn't known any more.
abbrev pub Pushed : Option (List Arrival) → Arrival → Option (List Arrival) → Type 0
Pushed old arrival new = (new ≡ None) ⊎ (new ≡ with_last old arrival)

-- The order has each message to an aircraft of which a copy waits.
abbrev pub Covers : Kept → ℕ → List Arrival → Type 0
Covers kept own order = (sender : ℕ) → sender < CRAFTS → (waiting : Waiting) → IsIn waiting (queue_at kept sender own) → Has order waiting.send sender

abbrev pub Knows : Kept → ℕ → Option (List Arrival) → Type 0
Knows kept own None = Unit {0}
Knows kept own (Some order) = Covers kept own order

pub record AreOrders (kept : Kept) (orders : List (Option (List Arrival))) : Type 0 where
  pub size : length orders ≡ CRAFTS
  pub each : (own : ℕ) → own < CRAFTS → Knows kept own (slice_index_or orders own None)

-- No copy waits to be taken by it.
abbrev pub IsQuiet : Kept → ℕ → Type 0
IsQuiet kept own = (sender : ℕ) → sender < CRAFTS → (waiting : Waiting) → IsIn waiting (queue_at kept sender own) → ⊥

-- The first copy of this sender's queue waits before all others to the aircraft, or together with them.
pub record WaitsFirst (kept : Kept) (own sender : ℕ) : Type 0 where
  pub sender_is : sender < CRAFTS
  pub head : Waiting
  pub here : slice_get (queue_at kept sender own) 0 ≡ Some head
  pub least : (other : ℕ) → other < CRAFTS → (waiting : Waiting) → IsIn waiting (queue_at kept other own) → head.send ≤ waiting.send

abbrev pub IsTold : Kept → ℕ → Front → Type 0
IsTold kept own (Waits sender) = WaitsFirst kept own sender
IsTold kept own Passed = Unit {0}
IsTold kept own Unknown = Unit {0}

-- The first copy is of this send, or isn't.
pub record StartsWith (queue : List Waiting) (send : ℕ) : Type 0 where
  pub head : Waiting
  pub here : slice_get queue 0 ≡ Some head
  pub send_is : head.send ≡ send

abbrev pub StartsOtherwise : List Waiting → ℕ → Type 0
StartsOtherwise queue send = (head : Waiting) → slice_get queue 0 ≡ Some head → head.send ≢ send
