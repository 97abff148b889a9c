use Rattle.std.proofs.Common.{◌≡◌, ◌≤◌}
use Rattle.picture.specs.Marked.{count_among}
use Rattle.picture.proofs.marked.count_among.Given as goal

-- The marks so far were counted.
abbrev pub invariant-loop-place : goal.invariant-loop-place
invariant-loop-place l = (l.count ≡ count_among l.labels l.first l.last l.place) × (l.count ≤ l.place)
