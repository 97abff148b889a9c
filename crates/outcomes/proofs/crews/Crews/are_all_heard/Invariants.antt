use Rattle.std.proofs.Common.{length}
use Rattle.outcomes.specs.Crews.{AreAllHeard}
use Rattle.outcomes.proofs.crews.Crews.are_all_heard.Given as goal

-- In the cycles so far all see and hear the same.
abbrev pub invariant-loop-earlier : goal.invariant-loop-earlier
invariant-loop-earlier l = AreAllHeard l.self l.state.journal (length l.state.encounter.crafts) l.earlier
