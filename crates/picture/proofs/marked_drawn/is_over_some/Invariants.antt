use Rattle.std.proofs.Common.{◌≡◌}
use Rattle.picture.specs.MarkedDrawn.{is_over_some}
use Rattle.picture.proofs.marked_drawn.is_over_some.Given as goal

-- Whether it lies over one of the marks so far.
abbrev pub invariant-loop-place : goal.invariant-loop-place
invariant-loop-place l = l.over ≡ is_over_some l.labels l.axis.cycles l.at l.place
