use Rattle.std.proofs.Common.{◌≡◌, take}
use Rattle.sweep.specs.Totals.{total}
use Rattle.sweep.proofs.counts.total.Given as goal

-- The sums over the first ones.
abbrev pub invariant-loop-at : goal.invariant-loop-at
invariant-loop-at l = l.sums ≡ total (take l.at l.list)
