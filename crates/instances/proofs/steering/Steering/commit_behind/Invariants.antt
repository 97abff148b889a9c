use Rattle.std.proofs.Common.{◌≡◌}
use Rattle.instances.proofs.steering.Steering.commit_behind.Given as goal

-- The encounter stays.
abbrev pub invariant-loop-other : goal.invariant-loop-other
invariant-loop-other l = l.self ≡ l.fn.self
