use Rattle.outcomes.specs.Advised.{began}
use Rattle.outcomes.specs.Outcomes.{AreSenses}
use Rattle.outcomes.proofs.outcome.all_began.Given as goal

-- Those of the aircraft so far are kept.
abbrev pub invariant-loop-own : goal.invariant-loop-own
invariant-loop-own l = AreSenses (began l.state.encounter l.state.journal) l.own l.list
