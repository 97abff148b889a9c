use Rattle.std.proofs.Common.{◌≡◌, replicate}
use Rattle.deliveries.specs.Noted.{no_copies}
use Rattle.deliveries.proofs.noting.no_copies.Given as goal

abbrev pub invariant-loop-slot : goal.invariant-loop-slot
invariant-loop-slot l = l.copies.items ≡ replicate l._slot no_copies
