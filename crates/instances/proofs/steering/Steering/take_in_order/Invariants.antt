use Rattle.std.proofs.Common.{◌≡◌}
use Rattle.instances.proofs.steering.Steering.take_in_order.Given as goal

-- The encounter stays.
abbrev pub invariant-loop-sender : goal.invariant-loop-sender
invariant-loop-sender l = l.self ≡ l.fn.self
