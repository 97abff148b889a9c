-- What can befall a message of a journal. A message is told by its sender, its receiver and its number. A journal
-- stands with its newest entry first.
use Rattle.std.specs.Prelude.{ℕ, Bool, true, false, ◌&&◌, not, ◌==◌, nat_lt, List, length, map, Option, Some, None}
use Rattle.std.specs.List.{list_any, range_with_len}
use Rattle.std.specs.Option.{option_map_or}
use Rattle.acas_base.specs.Encounter.{Parts}
use Rattle.acas_base.specs.declared.entry.Entry.{Entry}
use Rattle.acas_base.specs.declared.entry.Entry.TheVariants.{Commit, Send, Take}
use Rattle.acas_base.specs.declared.link.CopyPlan.{CopyPlan}
use Rattle.air_journal.specs.Airs.{plans_of}
use Rattle.air_rules.specs.Journal.{Sent, as_sent, count_of, sends, sent_at}
use Rattle.deliveries.specs.declared.mishap.Mishap.{Mishap}
use Rattle.deliveries.specs.declared.mishap.Mishap.TheVariants.{Lost, Spoilt, HeldBack, Repeated, Untaken}

-- The message that was sent is this one.
abbrev pub is_message : Option Sent → ℕ → ℕ → ℕ → Bool
is_message None sender receiver number = false
is_message (Some sent) sender receiver number = sent.sender == sender && (sent.receiver == receiver && sent.number == number)

-- The journal sent it.
abbrev pub was_sent : List Entry → ℕ → ℕ → ℕ → Bool
was_sent journal sender receiver number = list_any (λ entry. is_message (as_sent entry) sender receiver number) journal

-- ---- takes

-- A test of a take, by the number of the copy and by whether it was good.
abbrev pub TakeTest : Type 0
TakeTest = ℕ → Bool → Bool

-- An entry takes a copy of the message, and passes a test. It names the send by its position, at which `at` says what
-- was sent.
abbrev pub is_take_by : (ℕ → Option Sent) → ℕ → ℕ → ℕ → TakeTest → Entry → Bool
is_take_by at sender receiver of_number test (Commit own cycle cells) = false
is_take_by at sender receiver of_number test (Send own target number word) = false
is_take_by at sender receiver of_number test (Take own send copy good) = is_message (at send) sender receiver of_number && test copy good

-- Some entry of the journal does.
abbrev pub some_take : List Entry → ℕ → ℕ → ℕ → TakeTest → Bool
some_take journal sender receiver number test = list_any (is_take_by (sent_at journal) sender receiver number test) journal

abbrev pub was_taken : List Entry → ℕ → ℕ → ℕ → Bool
was_taken journal sender receiver number = some_take journal sender receiver number (λ copy good. true)

abbrev pub was_taken_well : List Entry → ℕ → ℕ → ℕ → Bool
was_taken_well journal sender receiver number = some_take journal sender receiver number (λ copy good. good)

abbrev pub was_copy_taken : List Entry → ℕ → ℕ → ℕ → ℕ → Bool
was_copy_taken journal sender receiver number of_copy = some_take journal sender receiver number (λ copy good. copy == of_copy)

-- ---- what befalls a message

-- It has no copies.
abbrev pub is_lost : List CopyPlan → Bool
is_lost plans = length plans == 0

-- A copy of it is held back for a commit or more.
abbrev pub is_held_back : List CopyPlan → Bool
is_held_back plans = list_any (λ (plan : CopyPlan). nat_lt 0 plan.hold) plans

-- It has two copies or more.
abbrev pub is_repeated : List CopyPlan → Bool
is_repeated plans = nat_lt 1 (length plans)

-- A copy of it was taken, and none that was taken was good.
abbrev pub is_spoilt : List Entry → ℕ → ℕ → ℕ → Bool
is_spoilt journal sender receiver number = was_taken journal sender receiver number && not (was_taken_well journal sender receiver number)

-- It has a copy that wasn't taken.
abbrev pub is_untaken : List Entry → List CopyPlan → ℕ → ℕ → ℕ → Bool
is_untaken journal plans sender receiver number = list_any (λ copy. not (was_copy_taken journal sender receiver number copy)) (range_with_len 0 (length plans))

-- What befalls a message that the journal sent.
abbrev pub befalls : Parts → List Entry → Mishap → ℕ → ℕ → ℕ → Bool
befalls e journal Lost sender receiver number = is_lost (plans_of e sender receiver number)
befalls e journal Spoilt sender receiver number = is_spoilt journal sender receiver number
befalls e journal HeldBack sender receiver number = is_held_back (plans_of e sender receiver number)
befalls e journal Repeated sender receiver number = is_repeated (plans_of e sender receiver number)
befalls e journal Untaken sender receiver number = is_untaken journal (plans_of e sender receiver number) sender receiver number

-- ---- of all messages

-- An entry sends a message that it befalls.
abbrev pub befalls_sent : Parts → List Entry → Mishap → Entry → Bool
befalls_sent e journal mishap entry = option_map_or (λ (sent : Sent). befalls e journal mishap sent.sender sent.receiver sent.number) (as_sent entry) false

-- How many messages of the journal it befalls.
abbrev pub befallen : Parts → List Entry → Mishap → ℕ
befallen e journal mishap = count_of (befalls_sent e journal mishap) journal

-- An aircraft numbers its messages to another one from 1 on. The flags say which of those that the journal sent it
-- befalls.
abbrev pub befallen_of : Parts → List Entry → Mishap → ℕ → ℕ → List Bool
befallen_of e journal mishap sender receiver = map (befalls e journal mishap sender receiver) (range_with_len 1 (sends journal sender receiver))
