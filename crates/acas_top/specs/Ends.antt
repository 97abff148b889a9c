-- How a call ends, for every command.
use Rattle.std.specs.Prelude.{◌≡◌, ◌↔◌, ◌⊎◌, ℕ, ◌<◌, ◌≤◌, List, [], length, Option, None, Some, IfSome, IsSomeAnd, Result, Ok, Err}
use Rattle.std.specs.Option.{ForSome}
use Rattle.acas_io.specs.Faults.{Rose, one_more}
use Rattle.acas_io.specs.Stream.{Grew, GrewByPrefix, TookAll}
use Rattle.acas_top.specs.Answers.{Answers}
use Rattle.acas_top.specs.Words.{IsCommand, Say, limit_of, most}
use Rattle.acas_top.specs.declared.status.Status.{Status}
use Rattle.acas_top.specs.declared.status.Status.TheVariants.{Done, OutOfMemory, ReadFault, Refused, TooLong, Usage, WriteFault, Wrong}
use Rattle.acas_top.specs.Commands.{Command}
use Rattle.acas_top.specs.declared.words.Limit.{Limit}

-- A status with which the whole text of an answer was written.
abbrev pub IsAnswer : Status → Type 0
IsAnswer Done = Unit {0}
IsAnswer Refused = Unit {0}
IsAnswer Wrong = Unit {0}
IsAnswer status = ⊥

-- These bytes were read: none where the command reads nothing, and else all that the source had left, up to the limit.
abbrev pub WasRead : Option Limit → Option (List ℕ) → Option (List ℕ) → List ℕ → Type 0
WasRead None old new bytes = (bytes ≡ []) × (new ≡ old)
WasRead (Some limit) old new bytes = (length bytes ≤ most limit bytes) × TookAll old new bytes

-- There is a limit, and the source had more bytes left than that, if it tells its bytes.
abbrev pub IsTooLong : Option Limit → Option (List ℕ) → Type 0
IsTooLong None left = ⊥
IsTooLong (Some limit) left = IfSome left (λ bytes. most limit bytes < length bytes)

-- The source tells its bytes, and they are within the limit of the command that the words say.
abbrev pub IsWithin : List (List ℕ) → Option (List ℕ) → Type 0
IsWithin words left = (command : Command) → Say words command → ForSome (limit_of command) (λ limit. IsSomeAnd left (λ bytes. length bytes ≤ most limit bytes))

-- The words say a command, and its answer on the bytes that it read is this status and the text that was written.
pub record Answered (words : List (List ℕ)) (status : Status) (old new : Option (List ℕ)) (IsPut : List ℕ → Type 0) : Type 0 where
  pub command : Command
  pub is : IsCommand command
  pub said : Say words command
  pub bytes : List ℕ
  pub read : WasRead (limit_of command) old new bytes
  pub text : List ℕ
  pub answers : Answers command bytes status text
  pub put : IsPut text

-- Why nothing could be read: one read failed and was counted, there were more bytes than the limit, or memory was
-- wanting.
abbrev pub IsUnread : Status → Option Limit → Option (List ℕ) → ℕ → ℕ → Type 0
IsUnread ReadFault limit left faults now = now ≡ one_more faults
IsUnread TooLong limit left faults now = IsTooLong limit left × (now ≡ faults)
IsUnread OutOfMemory limit left faults now = now ≡ faults
IsUnread status limit left faults now = ⊥

-- Either the whole text of an answer was written, the status is that of the answer, and no fault was counted. Or a
-- write failed and was counted, and a front of the text was written.
abbrev pub WasPut : Status → Status → List ℕ → Option (List ℕ) → Option (List ℕ) → ℕ → ℕ → Type 0
WasPut WriteFault own text old new faults now = GrewByPrefix old new text × Rose faults now
WasPut status own text old new faults now = (status ≡ own) × IsAnswer status × Grew old new text × (now ≡ faults)

-- The status after a text was written: that of the answer, or WriteFault where a write failed.
abbrev pub status_after : {T E : Type 0} → Status → Result T E → Status
status_after own (Ok unit) = own
status_after own (Err error) = WriteFault

-- How a call ended. It was given these words, a source and a sink. `left` and `reads` tell the bytes that a source has
-- left and how many reads failed; `written` and `writes` tell what a sink was given and how many writes failed.
-- `IsNone` says that the words are no command of the call.
pub record Ended {S K : Type 0} (IsNone : Type 0) (words : List (List ℕ)) (status : Status) (left : S → Option (List ℕ)) (reads : S → ℕ) (source source_new : S) (written : K → Option (List ℕ)) (writes : K → ℕ) (sink sink_new : K) : Type 0 where
  pub usage : (status ≡ Usage) ↔ IsNone
  pub untouched : status ≡ Usage → (source_new ≡ source) × (sink_new ≡ sink)
  -- The status and what was written are the answer to the command on the bytes that were read, to their end.
  pub answered : IsAnswer status → Answered words status (left source) (left source_new) (Grew (written sink) (written sink_new))
  -- After a read fault exactly one read failed, and nothing was written.
  pub read_fault : status ≡ ReadFault → (reads source_new ≡ one_more (reads source)) × (sink_new ≡ sink)
  -- After a write fault a write failed, and a front of an answer's text was written.
  pub write_fault : status ≡ WriteFault → Rose (writes sink) (writes sink_new) × ((own : Status) × Answered words own (left source) (left source_new) (GrewByPrefix (written sink) (written sink_new)))
  pub too_long : status ≡ TooLong → (sink_new ≡ sink) × ((command : Command) × Say words command × IsTooLong (limit_of command) (left source))
  pub memory : status ≡ OutOfMemory → sink_new ≡ sink
  -- Every fault is told: after any other status no read failed, and no write.
  pub no_read_fault : (status ≡ ReadFault → ⊥) → reads source_new ≡ reads source
  pub no_write_fault : (status ≡ WriteFault → ⊥) → writes sink_new ≡ writes sink
  -- A command that reads nothing leaves the source as it was, whatever the status is.
  pub unread : (command : Command) → Say words command → limit_of command ≡ None → source_new ≡ source
  -- Where the source has no more bytes than the limit and no fault is counted, a command is answered, unless memory is
  -- wanting.
  pub complete : (IsNone → ⊥) → IsWithin words (left source) → (Rose (reads source) (reads source_new) → ⊥) → (Rose (writes sink) (writes sink_new) → ⊥) → IsAnswer status ⊎ (status ≡ OutOfMemory)

-- Bytes were read, to their end, a text was written, and both stand in this relation.
pub record Passed (limit : Option Limit) (Relates : List ℕ → List ℕ → Type 0) (old new : Option (List ℕ)) (IsPut : List ℕ → Type 0) : Type 0 where
  pub bytes : List ℕ
  pub text : List ℕ
  pub read : WasRead limit old new bytes
  pub relates : Relates bytes text
  pub put : IsPut text

-- If the words say this command and its status is Done, what it read and what it wrote stand in this relation.
abbrev pub DoneAs : Command → (List ℕ → List ℕ → Type 0) → List (List ℕ) → Status → Option (List ℕ) → Option (List ℕ) → (List ℕ → Type 0) → Type 0
DoneAs command Relates words status old new IsPut = Say words command → status ≡ Done → Passed (limit_of command) Relates old new IsPut
