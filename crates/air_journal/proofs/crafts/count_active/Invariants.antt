use Rattle.std.proofs.Common.{◌≡◌, ◌≤◌}
use Rattle.air_journal.specs.Airs.{air_of}
use Rattle.air_rules.specs.Air.{is_active}
use Rattle.air_rules.specs.Length.{count_below}
use Rattle.air_journal.proofs.crafts.count_active.Given as goal

abbrev pub invariant-loop-own : goal.invariant-loop-own
invariant-loop-own l = record { value : l.count ≡ count_below (is_active (air_of l.encounter)) l.own; few : l.count ≤ l.own }
