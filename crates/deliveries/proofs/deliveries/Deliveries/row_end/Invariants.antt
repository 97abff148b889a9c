use Rattle.std.proofs.Common.{◌≡◌, ◌+◌, ◌-◌, length}
use Rattle.deliveries.specs.Mishaps.{befallen_of}
use Rattle.deliveries.specs.Rows.{row_end}
use Rattle.deliveries.proofs.deliveries.Deliveries.row_end.Given as goal

-- The messages so far belong to the row.
abbrev pub invariant-loop-after : goal.invariant-loop-after
invariant-loop-after l =
    let flags = befallen_of l.self.encounter l.self.journal l.mishap l.sender l.receiver in
    row_end flags (length flags) l.number ≡ row_end flags (length flags + l.number - l.after) l.after
