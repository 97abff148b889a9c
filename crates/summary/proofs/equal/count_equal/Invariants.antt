use Rattle.std.proofs.Common.{◌≡◌, ◌≤◌, length}
use Rattle.summary.specs.Pairs.{equal_cycles}
use Rattle.summary.proofs.equal.count_equal.Given as goal

-- Of the cycles so far, those of equal senses were counted.
abbrev pub invariant-loop-earlier : goal.invariant-loop-earlier
invariant-loop-earlier l = record {
  counted : l.found ≡ length (equal_cycles l.state.journal l.a l.b l.earlier);
  few : l.found ≤ l.earlier;
}
