use Rattle.std.proofs.Common.{◌≡◌}
use Rattle.instances.proofs.steering.Steering.send_all.Given as goal

-- The encounter stays.
abbrev pub invariant-loop-message : goal.invariant-loop-message
invariant-loop-message l = l.self ≡ l.fn.self
