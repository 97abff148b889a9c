-- What a seat knows after each step.
use Rattle.std.specs.Prelude.{◌≡◌, ◌≢◌, ℕ, ◌+◌, ◌%◌, ◌≤◌, pos, List, [], ◌∷◌, ◌++◌, Option, Some, None, if◌then◌else◌, ltb}
use Rattle.acas_base.specs.Encounter.{Parts, encounter_of}
use Rattle.acas_base.specs.declared.entry.Entry.{Entry}
use Rattle.acas_base.specs.declared.setting.Profile.TheVariants.{One}
use Rattle.acas_base.specs.declared.setting.Setting.{Setting}
use Rattle.air_journal.specs.Airs.{air_of}
use Rattle.air_journal.specs.States.{IsJournalOf, State}
use Rattle.air_rules.specs.Journal.{Begins, entries_of}
use Rattle.air_rules.specs.Rules.{IsLegal}
use Rattle.atomic_table.specs.Table.{Me, Step}
use Rattle.air_turn.specs.declared.view.Claim.{Claim}
use Rattle.air_turn.specs.declared.view.Knowledge.{Knowledge}
use Rattle.air_turn.specs.declared.view.Seen.{Seen}
use Rattle.air_turn.specs.declared.view.Stage.{Stage}
use Rattle.air_turn.specs.declared.view.Stage.TheVariants.{Idle, Waits, Holds}
use Rattle.air_turn.specs.Rule.{claim, knowledge, seen, state_of}

abbrev pub TurnStep : Type 0
TurnStep = Step (Option State)

-- What a seat knows, and what it holds.
abbrev pub KnownAndHeld : Type 0
KnownAndHeld = Me (Option State) Knowledge

-- The seat of one aircraft between two calls; with a ticket; with the turn.
abbrev pub resting : Parts → Claim → KnownAndHeld
resting e c = (knowledge e Idle (c ∷ []) [], [])

abbrev pub waiting : Parts → Claim → ℕ → KnownAndHeld
waiting e c k = (knowledge e (Waits k) (c ∷ []) [], [])

abbrev pub holding : Parts → Claim → ℕ → List Entry → ℕ → Option State → KnownAndHeld
holding e c k journal n x = (knowledge e (Holds k journal n) (c ∷ []) [], (0, x) ∷ [])

-- What the seat sees of the journal when its turn has come.
pub record Sees (e : Parts) (c : Claim) (journal : List Entry) (n : ℕ) : Type 0 where
  pub state : IsJournalOf e journal
  pub front : Begins c.seen.front journal
  pub own : entries_of c.seen.front c.own ≡ entries_of journal c.own
  pub count : c.seen.count ≤ n

-- The claim after a call.
abbrev pub called : Claim → List Entry → ℕ → Claim
called c journal n = claim c.own (c.made + 1) journal n

abbrev pub staged : Knowledge → Stage → Knowledge
staged v stage = record v { stage = stage }

abbrev pub first : List Claim → Claim
first [] = claim 0 0 [] 0
first (c ∷ cs) = c

-- The seat drew a ticket.
abbrev pub drew : TurnStep → KnownAndHeld → ℕ → KnownAndHeld → Type 0
drew st m r m' = (k : ℕ) × (k % 18446744073709551616 ≡ r) × (m' ≡ (staged m.0 (Waits k), m.1))

-- A look at the serving word of the seat's ticket. Where the ticket's number stands there, the seat has the turn and
-- the state. Else nothing changes.
abbrev pub looked : TurnStep → KnownAndHeld → ℕ → KnownAndHeld → Type 0
looked st m r m' = (k : ℕ) → m.0.stage ≡ Waits k
    → (r ≡ k % 18446744073709551616 → (journal : List Entry) × (n : ℕ) × (m' ≡ (staged m.0 (Holds k journal n), (0, Some (state_of m.0.encounter journal)) ∷ m.1)) × Sees m.0.encounter (first m.0.claims) journal n)
    × (r ≢ k % 18446744073709551616 → m' ≡ m)

-- The call was counted. The seat has seen the journal after the call.
abbrev pub raised : List Entry → TurnStep → KnownAndHeld → ℕ → KnownAndHeld → Type 0
raised now st m r m' = (k n : ℕ) (journal : List Entry) → m.0.stage ≡ Holds k journal n
    → m' ≡ (knowledge m.0.encounter (Holds k now (n + 1)) (called (first m.0.claims) now (n + 1) ∷ []) [], m.1)

-- The seat gave the turn to the next ticket.
abbrev pub gave : TurnStep → KnownAndHeld → ℕ → KnownAndHeld → Type 0
gave st m r m' = m' ≡ (staged m.0 Idle, [])

abbrev pub rest_of : List Claim → List Claim
rest_of [] = []
rest_of (c ∷ cs) = cs

-- The first claim goes to a new seat.
abbrev pub without_first : Knowledge → Knowledge
without_first v = knowledge v.encounter v.stage (rest_of v.claims) v.notes

abbrev pub first_alone : Knowledge → Knowledge
first_alone v = knowledge v.encounter Idle (first v.claims ∷ []) []

-- One seat takes over the claims of another one.
abbrev pub joined : Knowledge → Knowledge → Knowledge
joined v w = knowledge v.encounter v.stage (v.claims ++ w.claims) v.notes

-- A setting that says nothing.
abbrev pub no_setting : Setting
no_setting = record {
  version = 0;
  profile = One;
  cycles = 0;
  elevation = pos 0;
  range = record { alpha = 0; beta = 0 };
  altitude = record { alpha = 0; beta = 0 };
  name = None;
  clock = None;
}

-- What is left of a seat that was joined to another one. It has no claim.
abbrev pub spent : Knowledge
spent = knowledge (encounter_of no_setting [] [] [] [] [] []) Idle [] []

-- A note of what a seat has seen.
abbrev pub note_of : Knowledge → Knowledge
note_of v = knowledge v.encounter Idle [] ((first v.claims).seen ∷ [])

-- What was seen later, of two.
abbrev pub newer : Seen → Seen → Seen
newer a b = if ltb a.count b.count then b else a

abbrev pub first_note : List Seen → Seen
first_note [] = seen [] 0
first_note (s ∷ ss) = s

abbrev pub rest_notes : List Seen → List Seen
rest_notes [] = []
rest_notes (s ∷ ss) = ss

abbrev pub learned : Claim → Seen → Claim
learned c s = record c { seen = newer c.seen s }

-- The seat now knows what the note knows, and remembers what each of the two knew.
abbrev pub told : Knowledge → Knowledge → Knowledge
told v w = let c = first v.claims in let s = first_note w.notes in knowledge v.encounter v.stage (learned c s ∷ []) (c.seen ∷ s ∷ [])

-- The journal that is known now begins with both others. It has no entry of the aircraft that the first one lacks.
pub record Knows (e : Parts) (craft : ℕ) (now a b : List Entry) : Type 0 where
  pub legal : IsLegal (air_of e) now
  pub first : Begins a now
  pub second : Begins b now
  pub own : entries_of now craft ≡ entries_of a craft

-- A look at the table confirmed what the seat now knows.
abbrev pub confirmed : TurnStep → KnownAndHeld → ℕ → KnownAndHeld → Type 0
confirmed st m r m' = (m' ≡ (knowledge m.0.encounter m.0.stage m.0.claims [], m.1))
    × Knows m.0.encounter (first m.0.claims).own (first m.0.claims).seen.front (first_note m.0.notes).front (first_note (rest_notes m.0.notes)).front
