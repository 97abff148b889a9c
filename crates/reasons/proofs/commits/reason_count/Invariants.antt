use Rattle.std.proofs.Common.{◌≡◌, ◌≤◌, ◌*◌, ◌-◌, length}
use Rattle.air_rules.specs.Journal.{Begins}
use Rattle.reasons.specs.Reasons.{reasons_of}
use Rattle.reasons.proofs.commits.reason_count.Given as goal

-- The lines of what was read were counted.
abbrev pub invariant-entries : goal.invariant-entries
invariant-entries l = record {
  encounter : l.reader.encounter ≡ l.state.encounter;
  journal : l.reader.journal ≡ l.state.journal;
  begins : Begins l.reader.read l.reader.journal;
  counted : l.count ≡ length (reasons_of l.state.encounter l.reader.read);
  few : l.count ≤ 15 * length l.reader.read;
}

abbrev pub decreases-entries : goal.decreases-entries
decreases-entries l = length l.reader.journal - length l.reader.read
