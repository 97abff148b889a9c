use Rattle.std.proofs.Common.{◌≡◌, ◌-◌}
use Rattle.air_rules.specs.Journal.{commits}
use Rattle.journal_reader.specs.Reading.{read_of}
use Rattle.picture.proofs.messages_read.commits_before.Given as goal

-- No entry after these commits a cycle for the aircraft.
abbrev pub invariant-loop-back : goal.invariant-loop-back
invariant-loop-back l = commits (read_of l.state.journal (l.position - l.back)) l.own ≡ commits (read_of l.state.journal l.position) l.own
