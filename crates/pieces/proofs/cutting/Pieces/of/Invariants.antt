use Rattle.std.proofs.Common.{◌-◌, ◌≤◌, length}
use Rattle.std.specs.Prelude.{All}
use Rattle.pieces.specs.Ranges.{IsRange}
use Rattle.pieces.proofs.Rows.{IsCutOff}
use Rattle.pieces.proofs.cutting.Pieces.of.Given as goal

-- What was cut off stands before what is left.
abbrev pub invariant-loop-size : goal.invariant-loop-size
invariant-loop-size l = record {
  within : l.start ≤ length l.fn.text.items;
  few : length l.ranges.items ≤ l.start;
  inside : All (IsRange l.fn.text.items) l.ranges.items;
  cut : IsCutOff l.fn.text.items l.ranges.items l.start;
}

abbrev pub decreases-loop-size : goal.decreases-loop-size
decreases-loop-size l = length l.fn.text.items - l.start
