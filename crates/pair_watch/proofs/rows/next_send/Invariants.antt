use Rattle.std.proofs.Common.{◌≡◌, None}
use Rattle.journal_reader.specs.Reading.{read_of}
use Rattle.pair_watch.specs.Watching.{next_send}
use Rattle.pair_watch.proofs.rows.next_send.Given as goal

-- Among the entries so far there is no such send.
abbrev pub invariant-loop-at : goal.invariant-loop-at
invariant-loop-at l = next_send (read_of l.state.journal l.at) l.pair.low l.pair.high l.from ≡ None
