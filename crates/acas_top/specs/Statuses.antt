-- The numbers of the statuses.
use Rattle.std.specs.Prelude.{ℕ}
use Rattle.acas_top.specs.declared.status.Status.{Status}
use Rattle.acas_top.specs.declared.status.Status.TheVariants.{Done, Usage, Refused, Wrong, ReadFault, WriteFault, TooLong, OutOfMemory}

abbrev pub status_number : Status → ℕ
status_number Done = 0
status_number Usage = 2
status_number Refused = 3
status_number Wrong = 4
status_number ReadFault = 5
status_number WriteFault = 6
status_number TooLong = 7
status_number OutOfMemory = 8
