use Rattle.std.proofs.Common.{◌≡◌, ◌++◌}
use Rattle.std.specs.Prelude.{flat_map}
use Rattle.std.specs.List.{range_with_len}
use Rattle.run_losses.specs.Parts.{losses_at}
use Rattle.run_losses.proofs.rows.add_sender.Given as goal

-- The losses of the links so far.
abbrev pub invariant-loop-receiver : goal.invariant-loop-receiver
invariant-loop-receiver l = l.changes.items ≡ l.fn.changes.items ++ flat_map (losses_at l.state.encounter l.state.journal l.part l.sender) (range_with_len 0 l.receiver)
