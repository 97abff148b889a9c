-- The numbers of the reasons.
use Rattle.std.specs.Prelude.{ℕ}
use Rattle.rec_audit.specs.declared.verdict.Reason.{Reason}
use Rattle.rec_audit.specs.declared.verdict.Reason.TheVariants.{Encounter, Spelling, NotAllowed, OtherContent, Incomplete, Report}

abbrev pub reason_number : Reason → ℕ
reason_number (Encounter code) = 1
reason_number Spelling = 2
reason_number NotAllowed = 3
reason_number OtherContent = 4
reason_number Incomplete = 5
reason_number Report = 6
