use Rattle.std.proofs.Common.{◌≡◌, ◌+◌, ◌-◌, length}
use Rattle.deliveries.specs.Rows.{row_end}
use Rattle.deliveries.proofs.rows.Numbers.row_end.Given as goal

-- The numbers so far belong to the row.
abbrev pub invariant-loop-after : goal.invariant-loop-after
invariant-loop-after l = row_end l.self (length l.self) l.number ≡ row_end l.self (length l.self + l.number - l.after) l.after
