use Rattle.std.proofs.Common.{◌≡◌}
use Rattle.air_journal.specs.Airs.{air_of}
use Rattle.air_rules.specs.Takes.{complement_from}
use Rattle.ra_report.specs.Blocks.{is_not_above, is_not_below, some_below}
use Rattle.ra_report.proofs.limits.limits_on.Given as goal

-- Those from the aircraft so far.
abbrev pub invariant-loop-other : goal.invariant-loop-other
invariant-loop-other l = record {
  below : l.below ≡ some_below (λ other. is_not_below (complement_from (air_of l.reader.encounter) l.reader.read l.own other)) l.other;
  above : l.above ≡ some_below (λ other. is_not_above (complement_from (air_of l.reader.encounter) l.reader.read l.own other)) l.other;
}
