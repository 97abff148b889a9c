use Rattle.std.proofs.Common.{◌≡◌, ◌≤◌}
use Rattle.picture.specs.Gathered.{count_equal}
use Rattle.picture.proofs.gathered.count_equal.Given as goal

-- The equal calls of the aircraft so far were counted.
abbrev pub invariant-loop-own : goal.invariant-loop-own
invariant-loop-own l = (l.equal ≡ count_equal l.state.journal l.call l.own) × (l.equal ≤ l.own)
