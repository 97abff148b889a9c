use Rattle.std.proofs.Common.{◌-◌, length}
use Rattle.comparison.proofs.Cutting.{IsRead}
use Rattle.comparison.proofs.splitting.split.Given as goal

-- No line so far is the close.
abbrev pub invariant-loop-at : goal.invariant-loop-at
invariant-loop-at l = IsRead l.bytes l.at l.lines

abbrev pub decreases-loop-at : goal.decreases-loop-at
decreases-loop-at l = length l.bytes - l.at
