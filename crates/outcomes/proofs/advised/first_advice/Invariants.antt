use Rattle.std.proofs.Common.{◌≡◌, None}
use Rattle.std.specs.Prelude.{find}
use Rattle.std.specs.List.{range_with_len}
use Rattle.outcomes.specs.Advised.{advises_in}
use Rattle.outcomes.proofs.advised.first_advice.Given as goal

-- None of the cycles so far is found.
abbrev pub invariant-loop-earlier : goal.invariant-loop-earlier
invariant-loop-earlier l = find (advises_in l.state.journal l.own) (range_with_len 1 l.earlier) ≡ None
