use Rattle.std.proofs.Common.{◌≡◌, ◌-◌, length}
use Rattle.air_rules.specs.Journal.{Begins}
use Rattle.pair_watch.specs.Watching.{begun_lines}
use Rattle.pair_watch.proofs.intervals.IntervalsText.put.Given as goal

-- The lines of the intervals that begin in what was read were put.
abbrev pub invariant-loop-entry : goal.invariant-loop-entry
invariant-loop-entry g l = record {
  encounter : l.reader.encounter ≡ l.self.0.now.encounter;
  journal : l.reader.journal ≡ l.self.0.now.journal;
  begins : Begins l.reader.read l.reader.journal;
  put : g.S.LineSink.took l.fn.sink l.sink (begun_lines l.self.0.now.encounter l.self.0.now.journal l.reader.read);
}

abbrev pub decreases-loop-entry : goal.decreases-loop-entry
decreases-loop-entry g l = length l.reader.journal - length l.reader.read
