use Rattle.std.proofs.Common.{◌≡◌, ◌-◌, length}
use Rattle.std.specs.Prelude.{map}
use Rattle.air_rules.specs.Journal.{commits}
use Rattle.craft_view.specs.Looking.{AreReady}
use Rattle.reasons.specs.Reasons.{reasons_of}
use Rattle.reasons.specs.Columns.{reason_line}
use Rattle.reasons.proofs.commits.put_commits.Given as goal

-- The lines of what was read were put, and who committed has looked.
abbrev pub invariant-entries : goal.invariant-entries
invariant-entries g l = record {
  encounter : l.reader.encounter ≡ l.state.encounter;
  journal : l.reader.journal ≡ l.state.journal;
  ready : AreReady l.state.encounter (commits l.reader.read) l.surveillance.crafts;
  lines : g.S.LineSink.took l.fn.sink l.sink (map (reason_line l.state.encounter.profile) (reasons_of l.state.encounter l.reader.read));
}

abbrev pub decreases-entries : goal.decreases-entries
decreases-entries g l = length l.reader.journal - length l.reader.read
