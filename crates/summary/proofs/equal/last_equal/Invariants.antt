use Rattle.std.proofs.Common.{◌≡◌, ◌+◌, ◌-◌}
use Rattle.summary.specs.Pairs.{is_equal, last_equal}
use Rattle.summary.specs.Stretches.{lasts}
use Rattle.summary.proofs.equal.last_equal.Given as goal

-- The row lasts up to this cycle at least.
abbrev pub invariant-loop-cycle : goal.invariant-loop-cycle
invariant-loop-cycle l = last_equal l.state.journal l.state.encounter.cycles l.a l.b l.first ≡ lasts (λ cycle. is_equal l.state.journal l.a l.b (cycle + 1)) l.cycle (l.state.encounter.cycles - l.cycle)
