-- A worked journal. Two aircraft at one altitude fly towards each other, and each is a threat to the other from the
-- first cycle on. Both choose to climb. In the second cycle the one of higher address has taken the other's complement,
-- and descends.
use Rattle.std.specs.Prelude.{◌≡◌, ℕ, zero, suc, ◌+◌, ◌*◌, Bool, true, false, if◌then◌else◌, ◌==◌, List, [], ◌∷◌, ◌++◌, map, replicate, reverse, take, find, flat_map, Option, Some, None, pos}
use Rattle.std.specs.List.{range_with_len}
use Rattle.acas_base.specs.Complements.{forbidden_sense}
use Rattle.acas_base.specs.Encounter.{plain_copy}
use Rattle.acas_base.specs.Senses.{both, neither, sense_of}
use Rattle.acas_base.specs.declared.advisory.Cell.{Cell}
use Rattle.acas_base.specs.declared.advisory.Cell.TheVariants.{Clear, Ra}
use Rattle.acas_base.specs.declared.advisory.ResMsg.{ResMsg}
use Rattle.acas_base.specs.declared.advisory.Sense.{Sense}
use Rattle.acas_base.specs.declared.advisory.Sense.TheVariants.{Up, Down}
use Rattle.acas_base.specs.declared.advisory.Strength.TheVariants.{Positive}
use Rattle.acas_base.specs.declared.advisory.Vrc.{Vrc}
use Rattle.acas_base.specs.declared.advisory.Vrc.TheVariants.{Nil, NotBelow, NotAbove}
use Rattle.acas_base.specs.declared.craft.Kind.{Kind}
use Rattle.acas_base.specs.declared.craft.Kind.TheVariants as kinds
use Rattle.acas_base.specs.declared.entry.Entry.{Entry}
use Rattle.acas_base.specs.declared.entry.Entry.TheVariants.{Commit, Send, Take}
use Rattle.acas_base.specs.declared.view.Seps.{Seps}
use Rattle.acas_base.specs.declared.view.View.{View}
use Rattle.air_rules.specs.Air.{Air, IsSecond, IsSound}
use Rattle.air_rules.specs.Journal.{WasSent, count_of, entries_after, last_cell, was_taken}
use Rattle.air_rules.specs.Priority.{advises}
use Rattle.air_rules.specs.Rules.{IsLegal, IsComplete}
use Rattle.air_rules.specs.Runs.{run_began}
use Rattle.air_rules.specs.Serial.{IsSerial}
use Rattle.air_rules.specs.Settled.{IsBoundBy, IsPlainLink, TakesInOrder}
use Rattle.air_rules.specs.Takes.{complement_from, vrc_in_force}

-- The limits and Level leave the aircraft at one altitude. To climb or to descend gives more than ALIM, which is 600
-- ft.
abbrev pub separations : Seps
separations =
    let list = pos 0 ∷ pos 0 ∷ pos 0 ∷ pos 0 ∷ pos 734208 ∷ pos 1179648 ∷ [] in
    record { up = list; down = list }

abbrev pub view_of : Bool → View
view_of active = record {
  tested = active;
  traffic = active;
  resolves = active;
  threat = active;
  lasts = active;
  far = false;
  climbs = active;
  descends = active;
  descends_faster = active;
  side = Up;
  crosses = record { up = false; down = active };
  halves = 70;
  hurries = both;
  chases = neither;
  settled_at = 5;
  looks_ahead = false;
  alim = pos 614400;
  enough = pos 614400;
  gap = pos 0;
  rate = pos 0;
  first = separations;
  later = separations;
}

abbrev pub is_here : ℕ → Bool
is_here zero = true
is_here (suc zero) = true
is_here (suc (suc n)) = false

abbrev pub kind_of : ℕ → Option Kind
kind_of zero = Some kinds.Ra
kind_of (suc zero) = Some kinds.Ra
kind_of (suc (suc n)) = None

abbrev pub digit_of : Vrc → ℕ
digit_of Nil = 0
digit_of NotBelow = 1
digit_of NotAbove = 2

-- In this air a word has four digits: the complement set, the one cancelled, whether there are many threats, and the
-- sender's address.
abbrev pub word_of : ResMsg → ℕ
word_of message = 1000 * digit_of message.vrc + 100 * digit_of message.cancel + 10 * (if message.many then 1 else 0) + message.sender

-- The messages of one sender.
abbrev pub messages_of : ℕ → List ResMsg
messages_of sender =
    flat_map (λ vrc. flat_map (λ cancel. map (λ many. record { many = many; cancel = cancel; vrc = vrc; sender = sender }) (false ∷ true ∷ [])) (Nil ∷ NotBelow ∷ NotAbove ∷ [])) (Nil ∷ NotBelow ∷ NotAbove ∷ [])

abbrev pub read_word : ℕ → Option ResMsg
read_word word = find (λ message. word_of message == word) (messages_of 1 ++ messages_of 2 ++ messages_of 3)

-- Any mask but 0 spoils a word.
abbrev pub flip : ℕ → ℕ → ℕ
flip word mask = if mask == 0 then word else 0

abbrev pub example : Air
example = record {
  count = 2;
  places = 16;
  cycles = 2;
  kind = kind_of;
  address = λ own. own + 1;
  copies = λ sender receiver number. plain_copy ∷ [];
  view = λ own other cycle. view_of (is_here own);
  word = word_of;
  read = read_word;
  flip = flip;
}

-- To climb or to descend at 1500 ft/min.
abbrev pub advisory : Sense → ℕ → Bool → Cell
advisory sense age crossing = Ra (record { sense = sense; strength = Positive; age = age; turned = false; crossing = crossing; corrective = true })

-- A commit with one advisory.
abbrev pub commit : ℕ → ℕ → ℕ → Cell → Entry
commit own cycle other cell = Commit own cycle (record { list = map (λ place. if place == other then cell else Clear) (range_with_len 0 16) })

-- Its first round, the oldest entry first. Both climb, and both send "do not pass above".
abbrev pub first_round : List Entry
first_round =
    commit 0 1 1 (advisory Up 1 false) ∷
    commit 1 1 0 (advisory Up 1 false) ∷
    Send 0 1 1 2001 ∷
    Send 1 0 1 2002 ∷
    Take 0 3 0 true ∷
    Take 1 2 0 true ∷
    []

-- In its second round the second aircraft descends, and crosses. It cancels what it said, and sends "do not pass
-- below".
abbrev pub second_round : List Entry
second_round =
    commit 0 2 1 (advisory Up 2 false) ∷
    commit 1 2 0 (advisory Down 2 true) ∷
    Send 0 1 2 2001 ∷
    Send 1 0 2 1202 ∷
    Take 0 9 0 true ∷
    Take 1 8 0 true ∷
    []

-- The whole journal, and its beginning up to the second aircraft's second commit.
abbrev pub worked : List Entry
worked = reverse (first_round ++ second_round)

abbrev pub told : List Entry
told = reverse (first_round ++ take 2 second_round)

-- The same with something wrong at its end: a sense, a word, a take before its send, or a commit past a due copy.
abbrev pub wrong_sense : List Entry
wrong_sense = first_round ++ commit 0 2 1 (advisory Up 2 false) ∷ commit 1 2 0 (advisory Up 2 false) ∷ []

abbrev pub wrong_word : List Entry
wrong_word = commit 0 1 1 (advisory Up 1 false) ∷ commit 1 1 0 (advisory Up 1 false) ∷ Send 0 1 1 1001 ∷ []

abbrev pub wrong_order : List Entry
wrong_order = commit 0 1 1 (advisory Up 1 false) ∷ commit 1 1 0 (advisory Up 1 false) ∷ Take 0 3 0 true ∷ []

abbrev pub past_a_copy : List Entry
past_a_copy =
    commit 0 1 1 (advisory Up 1 false) ∷
    commit 1 1 0 (advisory Up 1 false) ∷
    Send 0 1 1 2001 ∷
    Send 1 0 1 2002 ∷
    commit 0 2 1 (advisory Up 2 false) ∷
    []

-- The second aircraft commits again before the first one has sent anything. So it has the first one's sense twice.
abbrev pub twice_equal : List Entry
twice_equal =
    commit 0 1 1 (advisory Up 1 false) ∷
    commit 1 1 0 (advisory Up 1 false) ∷
    Send 1 0 1 2002 ∷
    commit 1 2 0 (advisory Up 2 false) ∷
    []

-- This journal is legal, and both commits of the second aircraft stand within the first one's run.
pub record IsTwiceEqual : Type 0 where
  pub legal : IsLegal example (reverse twice_equal)
  pub run : run_began (reverse twice_equal) 0 1 Up ≡ Some 0
  pub both : count_of (advises 1 0 Up) (entries_after (reverse twice_equal) 0) ≡ 2

-- The complement in force from a take at 26 commits, once the aircraft has made `made`.
abbrev pub complement_after : ℕ → Vrc
complement_after made = vrc_in_force (Some (record { send = 2; vrc = NotAbove; commits = 26 })) made

-- Its first round, and n more commits of one aircraft.
abbrev pub and_commits : ℕ → ℕ → List Entry
and_commits own n = replicate n (commit own 2 0 Clear) ++ reverse first_round

-- Which complements are in force. After the first round the first aircraft's sense is forbidden to it, and it keeps it
-- in the second round. A spoilt take puts no complement in force. A complement is in force at five commits since the
-- take, and has lapsed at six. Only the taker's own commits count.
pub record IsInForce : Type 0 where
  pub kept : forbidden_sense (complement_from example (reverse first_round) 0 1) ≡ Some Up
  pub spoilt : complement_from example (reverse (take 5 first_round ++ Take 1 2 0 false ∷ [])) 1 0 ≡ Nil
  pub binds : complement_after 31 ≡ NotAbove
  pub lapses : complement_after 32 ≡ Nil
  pub by_own_commits : complement_from example (and_commits 1 6) 1 0 ≡ Nil
  pub not_by_others : complement_from example (and_commits 0 6) 1 0 ≡ NotAbove

-- The premises of the laws about opposite senses can hold together. The second aircraft gives way. The first one's
-- messages go over a plain link and are taken in order, and one was taken. At its second commit the second aircraft is
-- bound by a message that was sent after the first one's present run began. Both advise against each other.
pub record MeetsPremises : Type 0 where
  pub second : IsSecond example 1 0
  pub plain : IsPlainLink example worked 0 1
  pub in_order : TakesInOrder worked 1 0
  pub taken : was_taken worked 1 8 0 ≡ true
  pub mine : sense_of (last_cell told 1 0) ≡ Some Down
  pub theirs : sense_of (last_cell told 0 1) ≡ Some Up
  pub run : run_began told 0 1 Up ≡ Some 0
  pub sent : WasSent told 2 0 1 (record { sender = 0; receiver = 1; number = 1; word = 2001 })
  pub bound : IsBoundBy example told 1 0 (record { send = 2; vrc = NotAbove; commits = 1 })

-- Another air, in which nobody resolves. It has one aircraft of kind TA, which commits, and one of kind XPDR, which
-- makes no entries.
abbrev pub watching_kind : ℕ → Option Kind
watching_kind zero = Some kinds.Ta
watching_kind (suc zero) = Some kinds.Xpdr
watching_kind (suc (suc n)) = None

abbrev pub watching : Air
watching = record example { kind = watching_kind; view = λ own other cycle. view_of false }

abbrev pub watched : List Entry
watched = commit 0 2 1 Clear ∷ commit 0 1 1 Clear ∷ []

-- What the rules say of it.
pub record IsWorkedOut : Type 0 where
  pub sound : IsSound example
  pub serial : IsSerial example worked
  pub legal : IsLegal example worked
  pub complete : IsComplete example worked
  pub premises : MeetsPremises
  pub sense : IsLegal example (reverse wrong_sense) → ⊥
  pub word : IsLegal example (reverse wrong_word) → ⊥
  pub order : IsLegal example (reverse wrong_order) → ⊥
  pub past : IsLegal example (reverse past_a_copy) → ⊥
  pub twice : IsTwiceEqual
  pub in_force : IsInForce
  pub without_messages : IsSerial watching watched
