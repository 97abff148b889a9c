use Rattle.std.proofs.Common.{◌≡◌}
use Rattle.instances.proofs.steering.steered.Given as goal

-- The encounter stays.
abbrev pub invariant-loop-made : goal.invariant-loop-made
invariant-loop-made l = l.steering ≡ l.encounter
