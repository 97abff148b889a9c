use Rattle.journal_reader.specs.Reading.{read_of}
use Rattle.pair_watch.proofs.Lasting.{Lasts}
use Rattle.pair_watch.proofs.rows.last_of.Given as goal

-- In the entries so far the row lasts, in its sense, and this is its last commit.
abbrev pub invariant-loop-at : goal.invariant-loop-at
invariant-loop-at l = Lasts (read_of l.state.journal l.at) l.pair.low l.pair.high l.from l.sense l.last
