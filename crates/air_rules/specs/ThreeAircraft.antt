-- A second worked journal, with three aircraft of kind RA. The third one has the lowest address. In the second cycle
-- the first one advises against both others: up against the second, and down against the third. In the third cycle the
-- advisory against the second one ends. There the second one descends. It would choose to climb, but the first one
-- asked it not to pass above. The third one climbs.
use Rattle.std.specs.Prelude.{◌≡◌, ℕ, zero, suc, Bool, true, false, not, ◌&&◌, if◌then◌else◌, ◌==◌, List, [], ◌∷◌, ◌++◌, reverse, take, Option, Some, None, pos}
use Rattle.acas_base.specs.Encounter.{plain_copy}
use Rattle.acas_base.specs.Senses.{both, is_same_sense, neither}
use Rattle.acas_base.specs.declared.advisory.Cell.{Cell}
use Rattle.acas_base.specs.declared.advisory.Cell.TheVariants.{Clear, Traffic}
use Rattle.acas_base.specs.declared.advisory.Sense.{Sense}
use Rattle.acas_base.specs.declared.advisory.Sense.TheVariants.{Up, Down}
use Rattle.acas_base.specs.declared.advisory.Vrc.TheVariants.{NotBelow}
use Rattle.acas_base.specs.declared.craft.Kind.{Kind}
use Rattle.acas_base.specs.declared.craft.Kind.TheVariants as kinds
use Rattle.acas_base.specs.declared.entry.Entry.{Entry}
use Rattle.acas_base.specs.declared.entry.Entry.TheVariants.{Commit, Send, Take}
use Rattle.acas_base.specs.declared.link.CopyPlan.{CopyPlan}
use Rattle.acas_base.specs.declared.view.View.{View}
use Rattle.air_rules.specs.Air.{Air, IsSecond, IsSound}
use Rattle.air_rules.specs.Example.{advisory, flip, read_word, separations, word_of}
use Rattle.air_rules.specs.Rules.{IsLegal, IsComplete}
use Rattle.air_rules.specs.Serial.{IsSerial}
use Rattle.air_rules.specs.Takes.{last_take}

-- A view with tracks, and what its tests say of it.
abbrev pub view_with : Bool → Bool → Bool → Sense → View
view_with traffic resolves threat side = record {
  tested = true;
  traffic = traffic;
  resolves = resolves;
  threat = threat;
  lasts = threat;
  far = false;
  climbs = true;
  descends = true;
  descends_faster = true;
  side = side;
  crosses = record { up = not (is_same_sense Up side); down = not (is_same_sense Down side) };
  halves = 70;
  hurries = both;
  chases = neither;
  settled_at = 5;
  looks_ahead = false;
  alim = pos 614400;
  enough = pos 614400;
  gap = pos 0;
  rate = pos 0;
  first = separations;
  later = separations;
}

-- Nothing is near; a threat on this side; an aircraft is near, against which own aircraft doesn't resolve any more.
abbrev pub quiet : View
quiet = view_with false false false Up

abbrev pub threat : Sense → View
threat side = view_with true true true side

abbrev pub near : View
near = view_with true false false Up

-- What is seen, by cycle: what the first aircraft sees of the second, what it sees of the third, and what each of these
-- sees of it.
abbrev pub ends_in_three : ℕ → View
ends_in_three cycle = if cycle == 2 then threat Up else if cycle == 3 then near else quiet

abbrev pub starts_in_two : ℕ → View
starts_in_two cycle = if cycle == 1 then quiet else threat Down

abbrev pub starts_in_three : ℕ → View
starts_in_three cycle = if cycle == 1 then quiet else if cycle == 2 then near else threat Up

abbrev pub view_of : ℕ → ℕ → ℕ → View
view_of zero other cycle = if other == 1 then ends_in_three cycle else if other == 2 then starts_in_two cycle else quiet
view_of (suc zero) other cycle = if other == 0 then starts_in_three cycle else quiet
view_of (suc (suc zero)) other cycle = if other == 0 then starts_in_three cycle else quiet
view_of (suc (suc (suc own))) other cycle = quiet

-- The copies of the first aircraft's first message to the second one are a good one and a spoilt one. Its first message
-- to the third one has two copies, held for two commits, and its second message to that one is lost. The third one's
-- first message is held for one commit.
abbrev pub spoilt : CopyPlan
spoilt = record { hold = 0; mask = 7 }

abbrev pub held : ℕ → CopyPlan
held commits = record { hold = commits; mask = 0 }

abbrev pub copies_of : ℕ → ℕ → ℕ → List CopyPlan
copies_of sender receiver number =
    if sender == 0 && (receiver == 1 && number == 1) then plain_copy ∷ spoilt ∷ []
    else if sender == 0 && (receiver == 2 && number == 1) then held 2 ∷ held 2 ∷ []
    else if sender == 0 && (receiver == 2 && number == 2) then []
    else if sender == 2 && (receiver == 0 && number == 1) then held 1 ∷ []
    else plain_copy ∷ []

abbrev pub kind_of : ℕ → Option Kind
kind_of zero = Some kinds.Ra
kind_of (suc zero) = Some kinds.Ra
kind_of (suc (suc zero)) = Some kinds.Ra
kind_of (suc (suc (suc n))) = None

abbrev pub address_of : ℕ → ℕ
address_of zero = 2
address_of (suc zero) = 3
address_of (suc (suc own)) = 1

abbrev pub three : Air
three = record {
  count = 3;
  places = 3;
  cycles = 4;
  kind = kind_of;
  address = address_of;
  copies = copies_of;
  view = view_of;
  word = word_of;
  read = read_word;
  flip = flip;
}

-- A commit with these cells.
abbrev pub commit : ℕ → ℕ → Cell → Cell → Cell → Entry
commit own cycle first second third = Commit own cycle (record { list = first ∷ second ∷ third ∷ [] })

-- Its journal, the oldest entry first. In the first round there is nothing to send.
abbrev pub first_round : List Entry
first_round =
    commit 0 1 Clear Clear Clear ∷
    commit 1 1 Clear Clear Clear ∷
    commit 2 1 Clear Clear Clear ∷
    []

-- The first aircraft sends to both others, and says that it has many threats. The second one takes both copies, and one
-- of them is spoilt. The third one has to wait.
abbrev pub second_round : List Entry
second_round =
    commit 0 2 Clear (advisory Up 1 false) (advisory Down 1 false) ∷
    commit 1 2 Traffic Clear Clear ∷
    commit 2 2 Traffic Clear Clear ∷
    Send 0 1 1 2012 ∷
    Send 0 2 1 1012 ∷
    Take 1 6 0 true ∷
    Take 1 6 1 false ∷
    []

-- The first aircraft cancels what it said to the second one, and has one threat left. The second one descends, and the
-- third one climbs. Each sends to the first aircraft. It takes the second one's message, and has to wait for the third
-- one's.
abbrev pub third_round : List Entry
third_round =
    commit 0 3 Clear Traffic (advisory Down 2 false) ∷
    commit 1 3 (advisory Down 1 true) Clear Clear ∷
    commit 2 3 (advisory Up 1 false) Clear Clear ∷
    Send 0 1 2 202 ∷
    Send 0 2 2 1002 ∷
    Send 1 0 1 1003 ∷
    Send 2 0 1 2001 ∷
    Take 0 15 0 true ∷
    Take 1 13 0 true ∷
    []

-- There is nothing more to cancel. The first and the third aircraft have made the commits for which messages were held.
-- They take each copy of these first.
abbrev pub fourth_round : List Entry
fourth_round =
    commit 0 4 Clear Clear (advisory Down 3 false) ∷
    commit 1 4 (advisory Down 2 true) Clear Clear ∷
    commit 2 4 (advisory Up 2 false) Clear Clear ∷
    Send 0 2 3 1002 ∷
    Send 1 0 2 1003 ∷
    Send 2 0 2 2001 ∷
    Take 0 16 0 true ∷
    Take 0 23 0 true ∷
    Take 0 24 0 true ∷
    Take 2 7 0 true ∷
    Take 2 7 1 true ∷
    Take 2 22 0 true ∷
    []

abbrev pub entries : List Entry
entries = first_round ++ second_round ++ third_round ++ fourth_round

abbrev pub worked : List Entry
worked = reverse entries

-- The first n entries of the journal, and then these.
abbrev pub after_first : ℕ → List Entry → List Entry
after_first n others = reverse (take n entries ++ others)

-- After its third round the third aircraft goes ahead, and takes a held copy before the others have committed. By then
-- it has made four commits.
abbrev pub goes_ahead : List Entry
goes_ahead = after_first 19 (commit 2 4 (advisory Up 2 false) Clear Clear ∷ Take 2 7 0 true ∷ [])

-- In its fourth round the third aircraft takes the newer message first, and then the older one, which was held.
abbrev pub takes_older_last : List Entry
takes_older_last = after_first 25 (Take 2 22 0 true ∷ Take 2 7 0 true ∷ [])

-- What isn't allowed after a beginning of it: to send to the third aircraft first; to send twice; to cancel again; to
-- take a copy twice, before its time, by another aircraft; or to take a copy of a message that was lost.
abbrev pub IsRefused : ℕ → Entry → Type 0
IsRefused n entry = IsLegal three (after_first n (entry ∷ [])) → ⊥

pub record RefusesOthers : Type 0 where
  pub order_of_sends : IsRefused 6 (Send 0 2 1 1012)
  pub sent_twice : IsRefused 7 (Send 0 1 2 2012)
  pub cancelled_twice : IsRefused 22 (Send 0 1 3 202)
  pub taken_twice : IsRefused 10 (Take 1 6 0 true)
  pub held_back : IsRefused 19 (Take 2 7 0 true)
  pub not_its_own : IsRefused 8 (Take 2 6 0 true)
  pub lost : IsRefused 19 (Take 2 14 0 true)

-- The journal is complete as soon as all is committed and sent, though copies are due.
pub record IsCompleteOnceSent : Type 0 where
  pub uncommitted : IsComplete three (after_first 19 []) → ⊥
  pub unsent : IsComplete three (after_first 24 []) → ⊥
  pub untaken : IsComplete three (after_first 25 [])

-- What the rules say of it. The first aircraft gives way to the third one, since the third one has the lower address.
pub record IsWorkedOutForThree : Type 0 where
  pub sound : IsSound three
  pub gives_way : IsSecond three 0 2
  pub serial : IsSerial three worked
  pub legal : IsLegal three worked
  pub complete : IsComplete three worked
  pub ahead : IsLegal three goes_ahead
  pub taken : last_take three goes_ahead 2 0 ≡ Some (record { send = 7; vrc = NotBelow; commits = 4 })
  pub older_last : IsLegal three takes_older_last
  pub older_taken : last_take three takes_older_last 2 0 ≡ Some (record { send = 7; vrc = NotBelow; commits = 4 })
  pub refused : RefusesOthers
  pub once_sent : IsCompleteOnceSent
