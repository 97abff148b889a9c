use Rattle.std.proofs.Common.{◌≡◌}
use Rattle.instances.proofs.steering.Steering.take_but.Given as goal

-- The encounter stays.
abbrev pub invariant-loop-copy : goal.invariant-loop-copy
invariant-loop-copy l = l.self ≡ l.fn.self
