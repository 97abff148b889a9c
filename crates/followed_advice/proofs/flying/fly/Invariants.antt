use Rattle.followed_advice.specs.Keeping.{IsRightTo}
use Rattle.followed_advice.proofs.flying.fly.Given as goal

-- The places are right up to a cycle.
abbrev pub invariant-loop-known : goal.invariant-loop-known
invariant-loop-known l = IsRightTo l.encounter l.named l.flown l.known
