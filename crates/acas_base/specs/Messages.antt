-- The resolution message that an aircraft owes another one after a commit (ICAO Annex 10 vol. IV, 4.3).
use Rattle.std.specs.Prelude.{ℕ, Bool, true, false, nat_le, Option, Some, None, count_by}
use Rattle.acas_base.specs.Complements.{complement_of, cancelled_complement}
use Rattle.acas_base.specs.declared.advisory.Cell.{Cell}
use Rattle.acas_base.specs.declared.advisory.Cell.TheVariants.{Clear, Traffic, Ra}
use Rattle.acas_base.specs.declared.advisory.Cells.{Cells}
use Rattle.acas_base.specs.declared.advisory.ResMsg.{ResMsg}
use Rattle.acas_base.specs.declared.advisory.Vrc.{Vrc}
use Rattle.acas_base.specs.declared.advisory.Vrc.TheVariants.{Nil, NotBelow, NotAbove}

abbrev pub has_advisory : Cell → Bool
has_advisory Clear = false
has_advisory Traffic = false
has_advisory (Ra advisory) = true

-- Two or more resolution advisories, against whatever kind of aircraft.
abbrev pub has_many : Cells → Bool
has_many cells = nat_le 2 (count_by has_advisory cells.list)

-- The message that cancels what was said last; none where nothing was said.
abbrev pub cancel_of : Vrc → Bool → ℕ → Option ResMsg
cancel_of Nil many sender = None
cancel_of NotBelow many sender = Some (record { many = many; cancel = NotBelow; vrc = Nil; sender = sender })
cancel_of NotAbove many sender = Some (record { many = many; cancel = NotAbove; vrc = Nil; sender = sender })

-- The message owed to an aircraft after a commit with this cell for it. `said` is the complement that the last message
-- to it set. With an advisory the message sets the complement of the advisory's sense, and cancels the other complement
-- where that was said. Without an advisory it cancels what was said.
abbrev pub message_for : Cell → Vrc → Bool → ℕ → Option ResMsg
message_for (Ra advisory) said many sender = Some (record { many = many; cancel = cancelled_complement said (complement_of advisory.sense); vrc = complement_of advisory.sense; sender = sender })
message_for Clear said many sender = cancel_of said many sender
message_for Traffic said many sender = cancel_of said many sender
