-- What was taken, and the complement that it puts in force (ICAO Annex 10 vol. IV, 4.3; the lapse is this project's
-- profile).
use Rattle.std.specs.Prelude.{ℕ, Bool, false, ◌&&◌, if◌then◌else◌, ◌==◌, List, [], ◌∷◌, Option, Some, None, option_and_then}
use Rattle.acas_base.specs.Complements.{in_force}
use Rattle.acas_base.specs.declared.advisory.TheConstants.{LAPSE}
use Rattle.acas_base.specs.declared.advisory.ResMsg.{ResMsg}
use Rattle.acas_base.specs.declared.advisory.Vrc.{Vrc}
use Rattle.acas_base.specs.declared.advisory.Vrc.TheVariants.{Nil}
use Rattle.acas_base.specs.declared.entry.Entry.{Entry}
use Rattle.acas_base.specs.declared.entry.Entry.TheVariants.{Commit, Send, Take}
use Rattle.air_rules.specs.Air.{Air, copy_plan}
use Rattle.air_rules.specs.Journal.{Sent, sent_at, commits}

-- The message that a copy reads as when it is taken; none where the copy is spoilt.
abbrev pub read_copy : Air → Option Sent → ℕ → Option ResMsg
read_copy air None copy = None
read_copy air (Some sent) copy = option_and_then (λ plan. air.read (air.flip sent.word plan.mask)) (copy_plan air sent copy)

abbrev pub is_from : Option Sent → ℕ → Bool
is_from None sender = false
is_from (Some sent) sender = sent.sender == sender

-- The complement of what was read; Nil where nothing was.
abbrev pub complement_read : Option ResMsg → Vrc
complement_read None = Nil
complement_read (Some message) = message.vrc

-- A good take: the position of the message's send, the complement as it was taken, and how many commits the taker had
-- made.
pub record Taken : Type 0 where
  pub send : ℕ
  pub vrc : Vrc
  pub commits : ℕ

-- The last good take by an aircraft of a message of another one. A spoilt take changes nothing.
abbrev pub last_take : Air → List Entry → ℕ → ℕ → Option Taken
last_take air [] craft other = None
last_take air (Commit own cycle cells ∷ earlier) craft other = last_take air earlier craft other
last_take air (Send own target number word ∷ earlier) craft other = last_take air earlier craft other
last_take air (Take own send copy good ∷ earlier) craft other =
    if good && (own == craft && is_from (sent_at earlier send) other)
    then Some (record { send = send; vrc = complement_read (read_copy air (sent_at earlier send) copy); commits = commits earlier craft })
    else last_take air earlier craft other

-- A complement that isn't renewed lapses after this many commits of its taker.
abbrev pub lapse : ℕ
lapse = LAPSE

-- The complement in force from the last good take, once its taker has made `made` commits.
abbrev pub vrc_in_force : Option Taken → ℕ → Vrc
vrc_in_force None made = Nil
vrc_in_force (Some taken) made = in_force taken.vrc taken.commits made

-- The complement in force on an aircraft from another one: that of the last undamaged message that it took from the
-- other one, until it lapses.
abbrev pub complement_from : Air → List Entry → ℕ → ℕ → Vrc
complement_from air journal own other = vrc_in_force (last_take air journal own other) (commits journal own)
