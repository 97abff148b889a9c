use Rattle.std.proofs.Common.{◌≡◌, ◌≤◌, take}
use Rattle.acas_top.specs.Many.{sums_of}
use Rattle.outcomes.specs.Totals.{AreFew}
use Rattle.acas_top.proofs.many_text.sums_of.Given as goal

-- The sums of the pieces so far.
abbrev pub invariant-loop-at : goal.invariant-loop-at
invariant-loop-at l = record {
  value : l.sums ≡ sums_of (take l.at l.list);
  few : AreFew l.sums.totals;
  refused : l.sums.refused ≤ l.at;
  runs : l.sums.totals.runs ≤ l.at;
}
