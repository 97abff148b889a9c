-- The rule of the table, a ticket lock: what holds between any two atomic steps. Word 0 is the number of tickets drawn,
-- modulo 2 ^ 64. Word 1 is the length of the journal. Then come the serving words. Each ticket that can be out has one,
-- and the ticket's number is written there once it is served. The one slot has the state.
use Rattle.std.specs.Prelude.{◌≡◌, ◌≢◌, ℕ, ◌+◌, ◌%◌, ◌<◌, ◌≤◌, Bool, true, false, List, [], ◌∷◌, filter, length, slice_index, Option, Some}
use Rattle.std.specs.List.{range_with_len}
use mathlib.Core.Option.{some}
use lib.ListN.{get_elem?}
use Rattle.acas_base.specs.Encounter.{Parts}
use Rattle.acas_base.specs.declared.TheConstants.{CRAFTS}
use Rattle.acas_base.specs.declared.entry.Entry.{Entry}
use Rattle.air_journal.specs.Airs.{air_of}
use Rattle.air_journal.specs.States.{IsJournalOf, State}
use Rattle.air_rules.specs.Air.{is_active}
use Rattle.air_rules.specs.Journal.{Begins, entries_of, owner_of}
use Rattle.atomic_table.specs.Table.{State as TableState}
use Rattle.air_turn.specs.declared.view.TheConstants.{LENGTH, SERVING, TICKETS, WORDS}
use Rattle.air_turn.specs.declared.view.Claim.{Claim}
use Rattle.air_turn.specs.declared.view.Knowledge.{Knowledge}
use Rattle.air_turn.specs.declared.view.Seen.{Seen}
use Rattle.air_turn.specs.declared.view.Stage.{Stage}
use Rattle.air_turn.specs.declared.view.Stage.TheVariants.{Idle, Waits, Holds}
use Rattle.air_turn.specs.Totals.{total, one, between}

abbrev pub state_of : Parts → List Entry → State
state_of e journal = record { encounter = e; journal = journal }

-- The indices of the active aircraft, in order.
unfoldable pub active_of : Parts → List ℕ
active_of e = filter (is_active (air_of e)) (range_with_len 0 (length e.crafts))

-- What one turn may do to the journal: nothing, or it adds an entry of the aircraft.
pub data Grows (own : ℕ) (journal : List Entry) : List Entry → ℕ → Type 0 where
  stays : Grows own journal journal 0
  adds : (entry : Entry) → owner_of entry ≡ own → Grows own journal (entry ∷ journal) 1

abbrev pub seen : List Entry → ℕ → Seen
seen front count = record { front = front; count = count }

abbrev pub claim : ℕ → ℕ → List Entry → ℕ → Claim
claim own made front count = record { own = own; made = made; seen = seen front count }

abbrev pub knowledge : Parts → Stage → List Claim → List Seen → Knowledge
knowledge e stage claims notes = record { encounter = e; stage = stage; claims = claims; notes = notes }

-- The claims of some aircraft, before the first call.
abbrev pub fresh : List Entry → List ℕ → List Claim
fresh journal [] = []
fresh journal (own ∷ owns) = claim own 0 journal 0 ∷ fresh journal owns

-- The first seat begins with the claims of all active aircraft.
abbrev pub at_start : State → Knowledge
at_start s = knowledge s.encounter Idle (fresh s.journal (active_of s.encounter)) []

-- The knowledge is that of a seat or of a note, and not of a spent seat.
abbrev pub Speaks : Knowledge → Type 0
Speaks v = 1 ≤ length v.claims + length v.notes

-- 1 where the stage has this ticket.
abbrev pub has : ℕ → Stage → ℕ
has t Idle = 0
has t (Waits k) = one t k
has t (Holds k journal n) = one t k

-- 1 where the stage has a ticket.
abbrev pub waits : Stage → ℕ
waits Idle = 0
waits (Waits k) = 1
waits (Holds k journal n) = 1

-- How many calls the claims have made.
abbrev pub made : Knowledge → ℕ
made v = total (λ (c : Claim). c.made) v.claims

-- The sum of h over the aircraft of the claims.
abbrev pub weigh : (ℕ → ℕ) → Knowledge → ℕ
weigh h v = total (λ (c : Claim). h c.own) v.claims

-- How many claims know call n as the latest one.
abbrev pub tops : ℕ → Knowledge → ℕ
tops n v = total (λ (c : Claim). one n c.seen.count) v.claims

module _ (journal : List Entry) (calls : ℕ) (reach : ℕ → ℕ) where
  -- The journal that was seen begins this one. It is as long as this one was after the latest call that was seen.
  abbrev pub SeenFits : Seen → Type 0
  SeenFits s = Begins s.front journal × (s.count ≤ calls) × (length s.front ≡ reach s.count)

  -- The journal has no other entries of the aircraft, either.
  abbrev pub ClaimFits : Claim → Type 0
  ClaimFits c = SeenFits c.seen × (entries_of c.seen.front c.own ≡ entries_of journal c.own)

  abbrev pub ClaimsFit : List Claim → Type 0
  ClaimsFit [] = Unit {0}
  ClaimsFit (c ∷ cs) = ClaimFits c × ClaimsFit cs

  abbrev pub NotesFit : List Seen → Type 0
  NotesFit [] = Unit {0}
  NotesFit (s ∷ ss) = SeenFits s × NotesFit ss

  -- A seat that has just learned has two notes. The first one is what it knew before, with all entries of its aircraft.
  abbrev pub OldFits : List Claim → List Seen → Type 0
  OldFits [] ss = Unit {0}
  OldFits (c ∷ cs) [] = Unit {0}
  OldFits (c ∷ cs) (s ∷ ss) = entries_of s.front c.own ≡ entries_of journal c.own

  -- A seat with a ticket has one claim. The seat with the turn has the ticket that is served, holds the state, and
  -- knows the journal and the number of calls.
  abbrev pub StageFits : ℕ → Bool → ℕ → ℕ → ℕ → Stage → Type 0
  StageFits serving away holder seat claims Idle = Unit {0}
  StageFits serving away holder seat claims (Waits k) = claims ≡ 1
  StageFits serving away holder seat claims (Holds k known n) =
      (claims ≡ 1) × (away ≡ true) × (seat ≡ holder) × (k ≡ serving) × (known ≡ journal) × (n ≡ calls)

  -- What holds of the knowledge of each seat.
  pub record Fits (e : Parts) (serving : ℕ) (away : Bool) (holder : ℕ) (seat : ℕ) (v : Knowledge) : Type 0 where
    pub encounter : Speaks v → v.encounter ≡ e
    pub stage : StageFits serving away holder seat (length v.claims) v.stage
    pub claims : ClaimsFit v.claims
    pub notes : NotesFit v.notes
    pub old : OldFits v.claims v.notes

-- The serving word of a ticket. No two tickets that are out have the same one: their numbers follow each other, and
-- there are no more of them than aircraft.
abbrev pub serving_word : ℕ → ℕ
serving_word ticket = SERVING + ticket % CRAFTS

-- This ticket is served: its number stands on its serving word. The number of no later ticket stands on that ticket's
-- serving word.
pub record IsServed (words : List ℕ) (ticket : ℕ) : Type 0 where
  pub own : slice_index words (serving_word ticket) ≡ ticket % 18446744073709551616
  pub next : (later : ℕ) → ticket < later → later < ticket + CRAFTS → slice_index words (serving_word later) ≢ later % 18446744073709551616

abbrev pub IsHolding : Stage → Type 0
IsHolding (Holds k journal n) = Unit {0}
IsHolding _ = ⊥

-- There is one journal, and there were `calls` calls. `reach` is the length of the journal after each call. The state
-- is in its slot, or `holder` has it.
pub record HoldsThroughout (e : Parts) (s : TableState (Option State) Knowledge) : Type 0 where
  pub journal : List Entry
  pub calls : ℕ
  pub serving : ℕ
  pub drawn : ℕ
  pub away : Bool
  pub holder : ℕ
  pub reach : ℕ → ℕ
  pub wide : length s.words ≡ WORDS
  pub deep : length s.homes ≡ 1
  pub ticket_word : slice_index s.words TICKETS ≡ drawn % 18446744073709551616
  pub length_word : slice_index s.words LENGTH ≡ length journal % 18446744073709551616
  pub served : IsServed s.words serving
  pub state : IsJournalOf e journal
  -- Each active aircraft has one claim.
  pub owned : (h : ℕ → ℕ) → total (weigh h) s.views ≡ total h (active_of e)
  -- The calls are those that the seats have made.
  pub made_all : total made s.views ≡ calls
  -- As many tickets are out as seats wait or have the turn. Their numbers follow each other.
  pub queue : serving + total (λ (v : Knowledge). waits v.stage) s.views ≡ drawn
  pub out : (t : ℕ) → total (λ (v : Knowledge). has t v.stage) s.views ≡ between serving drawn t
  -- Somebody knows the latest call.
  pub latest : 1 ≤ total (tops calls) s.views
  pub rises : (m n : ℕ) → m ≤ n → reach m ≤ reach n
  pub reached : reach calls ≡ length journal
  pub each : (seat : ℕ) (v : Knowledge) → get_elem? s.views seat ≡ some v → Fits journal calls reach e serving away holder seat v
  pub in_table : away ≡ false → get_elem? s.homes 0 ≡ some (some (Some (state_of e journal)))
  pub in_hands : away ≡ true → (v : Knowledge) × (get_elem? s.views holder ≡ some v) × IsHolding v.stage
