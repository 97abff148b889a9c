use Rattle.outcomes.specs.Nearest.{IsFoundBelow, place_of_pair}
use Rattle.outcomes.proofs.nearest.found_with_all.Given as goal

-- What is found is that of the pairs so far.
abbrev pub invariant-loop-b : goal.invariant-loop-b
invariant-loop-b l = IsFoundBelow l.encounter (place_of_pair l.a l.b) l.so_far
