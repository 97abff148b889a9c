use Rattle.std.proofs.Common.{◌≡◌, ◌++◌}
use Rattle.std.specs.List.{range_with_len}
use Rattle.run_losses.specs.Losses.{singles_among}
use Rattle.run_losses.proofs.links.add_singles.Given as goal

-- The losses of the messages so far.
abbrev pub invariant-loop-before : goal.invariant-loop-before
invariant-loop-before l = l.changes.items ≡ l.fn.changes.items ++ singles_among l.encounter l.sender l.receiver (range_with_len 1 l.before)
