use Rattle.std.proofs.Common.{◌≡◌}
use Rattle.journal_reader.specs.Reading.{read_of}
use Rattle.summary.specs.Head.{entries_in}
use Rattle.summary.proofs.head.entries_in.Given as goal

-- The entries so far were counted.
abbrev pub invariant-loop-at : goal.invariant-loop-at
invariant-loop-at l = l.counts ≡ entries_in (read_of l.state.journal l.at)
