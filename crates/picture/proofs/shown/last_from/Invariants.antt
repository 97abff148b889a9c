use Rattle.std.proofs.Common.{◌≡◌, ◌-◌}
use Rattle.equal_rows.specs.Rows.{last_from, lasts}
use Rattle.picture.specs.Shown.{goes_on}
use Rattle.picture.proofs.shown.last_from.Given as goal

-- The row lasts up to this cycle at least.
abbrev pub invariant-loop-cycle : goal.invariant-loop-cycle
invariant-loop-cycle l = last_from (goes_on l.state.journal l.own) l.state.encounter.cycles l.first ≡ lasts (goes_on l.state.journal l.own) l.cycle (l.state.encounter.cycles - l.cycle)
