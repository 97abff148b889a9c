use Rattle.std.proofs.Common.{◌≡◌, None, length}
use Rattle.std.specs.Prelude.{find}
use Rattle.std.specs.List.{range_with_len}
use Rattle.outcomes.specs.Advised.{some_has}
use Rattle.outcomes.proofs.advised.first_cycle.Given as goal

-- None of the cycles so far is found.
abbrev pub invariant-loop-earlier : goal.invariant-loop-earlier
invariant-loop-earlier l = find (some_has l.state.journal (length l.state.encounter.crafts)) (range_with_len 1 l.earlier) ≡ None
