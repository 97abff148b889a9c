use Rattle.outcomes.specs.Crews.{AreHeard}
use Rattle.outcomes.proofs.crews.Crews.are_heard.Given as goal

-- The crews so far see and hear the same.
abbrev pub invariant-loop-own : goal.invariant-loop-own
invariant-loop-own l = AreHeard l.self l.state.journal l.own l.cycle
