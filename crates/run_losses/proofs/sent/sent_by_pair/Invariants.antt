use Rattle.run_losses.specs.Counted.{AreSent, read_of}
use Rattle.run_losses.proofs.sent.sent_by_pair.Given as goal

-- The entries so far are counted.
abbrev pub invariant-loop-at : goal.invariant-loop-at
invariant-loop-at l = AreSent (read_of l.state.journal l.at) l.sent
