use Rattle.std.proofs.Common.{◌≡◌, ◌+◌}
use Rattle.picture.proofs.modelled.skip.Given as goal

-- So many more cycles were told.
abbrev pub invariant-loop-done : goal.invariant-loop-done
invariant-loop-done l = l.flight ≡ record l.fn.flight { told = l.fn.flight.told + l.done }
