use Rattle.std.proofs.Common.{◌≡◌, ◌++◌}
use Rattle.std.specs.Prelude.{map}
use Rattle.std.specs.List.{range_with_len}
use Rattle.run_losses.specs.Losses.{front_loss}
use Rattle.run_losses.proofs.links.add_fronts.Given as goal

-- The losses so far.
abbrev pub invariant-loop-place : goal.invariant-loop-place
invariant-loop-place l = l.changes.items ≡ l.fn.changes.items ++ map (front_loss l.sender l.receiver) (range_with_len 2 l.place)
