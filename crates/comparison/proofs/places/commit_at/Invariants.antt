use Rattle.std.proofs.Common.{◌≡◌}
use Rattle.journal_reader.specs.Reading.{read_of}
use Rattle.comparison.specs.Cells.{commit_at}
use Rattle.comparison.proofs.places.commit_at.Given as goal

abbrev pub invariant-loop-at : goal.invariant-loop-at
invariant-loop-at l = l.found ≡ commit_at (read_of l.state.journal l.at) l.own l.cycle
