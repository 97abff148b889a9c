use Rattle.std.proofs.Common.{◌≡◌, ◌-◌}
use Rattle.equal_rows.specs.Rows.{last_from, lasts}
use Rattle.seconds_panel.specs.Seconds.{goes_on}
use Rattle.seconds_panel.proofs.rows.last_from.Given as goal

-- The row lasts up to this cycle at least.
abbrev pub invariant-loop-cycle : goal.invariant-loop-cycle
invariant-loop-cycle l =
    last_from (goes_on l.seconds.encounter l.seconds.pair l.series) l.seconds.encounter.cycles l.first ≡ lasts (goes_on l.seconds.encounter l.seconds.pair l.series) l.cycle (l.seconds.encounter.cycles - l.cycle)
