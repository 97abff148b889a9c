use Rattle.std.proofs.Common.{◌≡◌, ◌++◌}
use Rattle.std.specs.Prelude.{flat_map}
use Rattle.std.specs.List.{range_with_len}
use Rattle.run_losses.specs.Parts.{losses_from}
use Rattle.run_losses.proofs.rows.add_part.Given as goal

-- The losses of the links of the senders so far.
abbrev pub invariant-loop-sender : goal.invariant-loop-sender
invariant-loop-sender l = l.changes.items ≡ l.fn.changes.items ++ flat_map (losses_from l.state.encounter l.state.journal l.part) (range_with_len 0 l.sender)
