use Rattle.std.proofs.Common.{◌+◌}
use Rattle.outcomes.specs.Nearest.{IsFoundBelow, place_of_pair}
use Rattle.outcomes.proofs.nearest.nearest_approach.Given as goal

-- What is found is that of the pairs of the aircraft so far.
abbrev pub invariant-loop-a : goal.invariant-loop-a
invariant-loop-a l = IsFoundBelow l.encounter (place_of_pair l.a (l.a + 1)) l.so_far
