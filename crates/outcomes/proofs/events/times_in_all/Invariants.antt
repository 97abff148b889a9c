use Rattle.std.proofs.Common.{◌≡◌, ◌≤◌, ◌*◌, length}
use Rattle.std.specs.Prelude.{sum_by}
use Rattle.std.specs.List.{range_with_len}
use Rattle.outcomes.specs.Events.{times_with}
use Rattle.outcomes.proofs.events.times_in_all.Given as goal

-- Those of the aircraft so far were counted.
abbrev pub invariant-loop-own : goal.invariant-loop-own
invariant-loop-own l = record {
  counted : l.found ≡ sum_by (λ own. times_with l.event l.state.journal l.state.encounter.cycles own (length l.state.encounter.crafts)) (range_with_len 0 l.own);
  few : l.found ≤ l.own * 9600;
}
