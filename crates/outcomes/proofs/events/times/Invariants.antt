use Rattle.std.proofs.Common.{◌≡◌, ◌≤◌}
use Rattle.outcomes.specs.Events.{times}
use Rattle.outcomes.proofs.events.times.Given as goal

-- Those of the cycles so far were counted.
abbrev pub invariant-loop-earlier : goal.invariant-loop-earlier
invariant-loop-earlier l = record {
  counted : l.found ≡ times l.event l.state.journal l.own l.other l.earlier;
  few : l.found ≤ l.earlier;
}
