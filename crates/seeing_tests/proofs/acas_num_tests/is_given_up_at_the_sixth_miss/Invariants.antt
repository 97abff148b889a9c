use Rattle.acas_num.specs.Tracks.{range_limits, IsWithinLimits}
use Rattle.seeing_tests.proofs.acas_num_tests.is_given_up_at_the_sixth_miss.Given as goal

abbrev pub invariant-loop : goal.invariant-loop
invariant-loop g l = IsWithinLimits range_limits l.state
