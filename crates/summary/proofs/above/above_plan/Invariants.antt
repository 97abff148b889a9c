use Rattle.summary.specs.Kept.{AreNoted}
use Rattle.summary.proofs.above.above_plan.Given as goal

-- The altitudes of the aircraft so far are kept.
abbrev pub invariant-loop-craft : goal.invariant-loop-craft
invariant-loop-craft l = AreNoted l.state.encounter l.state.journal l.craft 0 l.list
