use Rattle.std.proofs.Common.{◌≡◌, ◌-◌}
use Rattle.outcomes.specs.Advised.{advises_in, last_where}
use Rattle.outcomes.proofs.advised.last_advice.Given as goal

-- The last one is found among the cycles that are left.
abbrev pub invariant-loop-later : goal.invariant-loop-later
invariant-loop-later l = last_where (advises_in l.state.journal l.own) l.state.encounter.cycles ≡ last_where (advises_in l.state.journal l.own) (l.state.encounter.cycles - l.later)
