use Rattle.std.proofs.Common.{◌≡◌, ◌-◌}
use Rattle.equal_rows.specs.Rows.{last_from, lasts}
use Rattle.possibilities.specs.Listing.{keeps}
use Rattle.possibilities.proofs.marked.last_from.Given as goal

-- The row lasts up to this cycle at least.
abbrev pub invariant-loop-cycle : goal.invariant-loop-cycle
invariant-loop-cycle g l = last_from (keeps (g.M.Marked.mark l.marked)) l.cycles l.first ≡ lasts (keeps (g.M.Marked.mark l.marked)) l.cycle (l.cycles - l.cycle)
