use Rattle.std.proofs.Common.{◌≡◌}
use Rattle.journal_reader.specs.Reading.{read_of}
use Rattle.picture.specs.Head.{sent_in}
use Rattle.picture.proofs.head.sent_in.Given as goal

-- The messages so far were counted.
abbrev pub invariant-loop-at : goal.invariant-loop-at
invariant-loop-at l = l.sent ≡ sent_in (read_of l.state.journal l.at)
