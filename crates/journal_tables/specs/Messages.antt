-- The table of messages: what each message asked, and what became of each of its copies. A journal stands with its
-- newest entry first.
use Rattle.std.specs.Prelude.{ℕ, Bool, true, false, not, if◌then◌else◌, List, [], ◌∷◌, ◌++◌, codes, length, Option, Some, None, option_map, option_to_list, slice_get}
use Rattle.std.specs.Fmt.{decimal}
use Rattle.std.specs.List.{flat_map, range_with_len}
use Rattle.std.specs.Option.{option_or}
use Rattle.acas_base.specs.Encounter.{Parts}
use Rattle.acas_base.specs.declared.advisory.ResMsg.{ResMsg}
use Rattle.acas_base.specs.declared.advisory.Vrc.{Vrc}
use Rattle.acas_base.specs.declared.advisory.Vrc.TheVariants.{Nil, NotAbove, NotBelow}
use Rattle.acas_base.specs.declared.entry.Entry.{Entry}
use Rattle.acas_base.specs.declared.entry.Entry.TheVariants.{Commit, Send, Take}
use Rattle.acas_base.specs.declared.link.CopyPlan.{CopyPlan}
use Rattle.acas_lines.specs.Lines.{joined, line_of}
use Rattle.acas_text.specs.Fields.{mark}
use Rattle.acas_text.specs.Hex.{hex}
use Rattle.advisory_report.specs.Words.{complement_text}
use Rattle.air_journal.specs.Airs.{address_of, air_of, plans_of}
use Rattle.air_rules.specs.Air.{Air}
use Rattle.air_rules.specs.Journal.{Sent, commits, is_take_of}
use Rattle.air_rules.specs.Takes.{complement_from, complement_read}
use Rattle.journal_tables.specs.declared.messages.Message.{Message}
use Rattle.journal_tables.specs.declared.takes.CopyTake.{CopyTake}
use Rattle.rec_text.specs.Entries.{outcome}
use Rattle.res_message.specs.Words.{read_word}

-- ---- the take of a copy

abbrev pub is_good : Entry → Bool
is_good (Commit own cycle cells) = false
is_good (Send own target number word) = false
is_good (Take own send copy good) = good

abbrev pub is_same_complement : Vrc → Vrc → Bool
is_same_complement Nil Nil = true
is_same_complement Nil NotBelow = false
is_same_complement Nil NotAbove = false
is_same_complement NotBelow Nil = false
is_same_complement NotBelow NotBelow = true
is_same_complement NotBelow NotAbove = false
is_same_complement NotAbove Nil = false
is_same_complement NotAbove NotBelow = false
is_same_complement NotAbove NotAbove = true

-- The complement in force on the receiver from the sender is another one after an entry than before it. One that has
-- lapsed isn't in force.
abbrev pub changes : Air → List Entry → Entry → ℕ → ℕ → Bool
changes air earlier entry sender receiver = not (is_same_complement (complement_from air earlier receiver sender) (complement_from air (entry ∷ earlier) receiver sender))

-- What the entry that takes a copy says: its position, the cycle of the receiver's last commit before it, whether the
-- copy is good, and whether it changes the complement in force.
abbrev pub take_by : Air → List Entry → Entry → ℕ → ℕ → CopyTake
take_by air earlier entry sender receiver = record {
  at = length earlier;
  cycle = commits earlier receiver;
  good = is_good entry;
  changed = changes air earlier entry sender receiver;
}

-- The take of a copy of the message that was sent at a position: the first entry that takes it. None where it isn't
-- taken.
abbrev pub take_of : Air → List Entry → ℕ → ℕ → ℕ → ℕ → Option CopyTake
take_of air [] sender receiver send copy = None
take_of air (entry ∷ earlier) sender receiver send copy =
    option_or (take_of air earlier sender receiver send copy) (if is_take_of receiver send copy entry then Some (take_by air earlier entry sender receiver) else None)

-- ---- the text

unfoldable pub message_names : List ℕ
message_names = codes "sender,receiver,number,sent_cycle,sent_at,sets,cancels,copy,hold,taken_at,taken_cycle,result,changed\n"

-- The complement that a message cancels; Nil where there is no message.
abbrev pub cancel_read : Option ResMsg → Vrc
cancel_read None = Nil
cancel_read (Some message) = message.cancel

-- What is told of a message that is sent after these entries: the cycle is that of the sender's last commit.
abbrev pub message_of : Parts → List Entry → Sent → Message
message_of e earlier sent = record {
  sender = address_of e sent.sender;
  receiver = address_of e sent.receiver;
  number = sent.number;
  cycle = commits earlier sent.sender;
  at = length earlier;
  sets = complement_read (read_word sent.word);
  cancels = cancel_read (read_word sent.word);
}

abbrev pub message_fields : Message → List (List ℕ)
message_fields it =
    hex 6 it.sender ∷ hex 6 it.receiver ∷ decimal it.number ∷ decimal it.cycle ∷ decimal it.at ∷ complement_text it.sets ∷ complement_text it.cancels ∷ []

-- So many fields with nothing in them stand for what there isn't.
abbrev pub no_take : List (List ℕ)
no_take = [] ∷ [] ∷ [] ∷ [] ∷ []

abbrev pub no_copy : List (List ℕ)
no_copy = [] ∷ [] ∷ no_take

abbrev pub taken_fields : CopyTake → List (List ℕ)
taken_fields take = decimal take.at ∷ decimal take.cycle ∷ outcome take.good ∷ mark take.changed ∷ []

abbrev pub take_fields : Option CopyTake → List (List ℕ)
take_fields None = no_take
take_fields (Some take) = taken_fields take

-- The number of a copy and for how many commits it is held back, and its take.
abbrev pub copy_fields : ℕ → CopyPlan → Option CopyTake → List (List ℕ)
copy_fields copy plan take = decimal copy ∷ decimal plan.hold ∷ take_fields take

-- The line of a copy, and that of a message without copies.
abbrev pub copy_line : Message → ℕ → CopyPlan → Option CopyTake → List ℕ
copy_line message copy plan take = line_of (message_fields message ++ copy_fields copy plan take)

abbrev pub lost_line : Message → List ℕ
lost_line message = line_of (message_fields message ++ no_copy)

-- The line of a copy, where the message has it.
abbrev pub lines_of_copy : Message → List CopyPlan → (ℕ → Option CopyTake) → ℕ → List (List ℕ)
lines_of_copy message plans takes copy = option_to_list (option_map (λ (plan : CopyPlan). copy_line message copy plan (takes copy)) (slice_get plans copy))

-- The lines of a message with these copies, by the take of each: a line for each of the copies 0, 1 and 2 that it has;
-- where it has none, the line of a message without copies.
abbrev pub lines_by : Message → List CopyPlan → (ℕ → Option CopyTake) → List (List ℕ)
lines_by message [] takes = lost_line message ∷ []
lines_by message (first ∷ rest) takes = flat_map (lines_of_copy message (first ∷ rest) takes) (range_with_len 0 3)

-- The lines of a message that is sent after these entries of a journal.
abbrev pub lines_of_message : Parts → List Entry → List Entry → Sent → List (List ℕ)
lines_of_message e journal earlier sent =
    lines_by (message_of e earlier sent) (plans_of e sent.sender sent.receiver sent.number) (take_of (air_of e) journal sent.sender sent.receiver (length earlier))

abbrev pub lines_of_entry : Parts → List Entry → List Entry → Entry → List (List ℕ)
lines_of_entry e journal earlier (Commit own cycle cells) = []
lines_of_entry e journal earlier (Send own target number word) = lines_of_message e journal earlier (record { sender = own; receiver = target; number = number; word = word })
lines_of_entry e journal earlier (Take own send copy good) = []

-- Those of the messages that are sent in a beginning of the journal, in order.
unfoldable pub sent_lines : Parts → List Entry → List Entry → List (List ℕ)
sent_lines e journal [] = []
sent_lines e journal (entry ∷ earlier) = sent_lines e journal earlier ++ lines_of_entry e journal earlier entry

-- The names of the columns, and the lines of all messages.
abbrev pub message_lines : Parts → List Entry → List (List ℕ)
message_lines e journal = message_names ∷ sent_lines e journal journal

abbrev pub messages_text : Parts → List Entry → List ℕ
messages_text e journal = joined (message_lines e journal)
