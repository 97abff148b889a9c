use Rattle.deliveries.specs.Counts.{AreCounts, AreFew}
use Rattle.deliveries.specs.Noted.{read_of}
use Rattle.deliveries.proofs.counts.counts_of.Given as goal

-- The entries so far were counted.
abbrev pub invariant-loop-at : goal.invariant-loop-at
invariant-loop-at l = record {
  value : AreCounts l.state.encounter l.state.journal (read_of l.state.journal l.at) l.counts;
  few : AreFew l.counts l.at;
}
