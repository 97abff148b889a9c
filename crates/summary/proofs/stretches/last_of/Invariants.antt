use Rattle.std.proofs.Common.{◌≡◌, ◌-◌}
use Rattle.summary.specs.Stretches.{is_kept, last_of, lasts}
use Rattle.summary.proofs.stretches.last_of.Given as goal

-- The stretch lasts up to this cycle at least.
abbrev pub invariant-loop-cycle : goal.invariant-loop-cycle
invariant-loop-cycle l = last_of l.state.journal l.state.encounter.cycles l.own l.other l.first ≡ lasts (is_kept l.state.journal l.own l.other) l.cycle (l.state.encounter.cycles - l.cycle)
