use Rattle.std.proofs.Common.{◌≡◌, false}
use Rattle.outcomes.specs.Advised.{some_has}
use Rattle.outcomes.proofs.advised.some_has.Given as goal

-- None of the aircraft so far has one.
abbrev pub invariant-loop-own : goal.invariant-loop-own
invariant-loop-own l = some_has l.state.journal l.own l.cycle ≡ false
