use Rattle.std.proofs.Common.{◌≡◌, ◌≤◌, ◌*◌}
use Rattle.outcomes.specs.Events.{times_with}
use Rattle.outcomes.proofs.events.times_with.Given as goal

-- Those against the aircraft so far were counted.
abbrev pub invariant-loop-other : goal.invariant-loop-other
invariant-loop-other l = record {
  counted : l.found ≡ times_with l.event l.state.journal l.state.encounter.cycles l.own l.other;
  few : l.found ≤ l.other * 600;
}
