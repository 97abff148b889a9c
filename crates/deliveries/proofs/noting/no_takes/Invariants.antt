use Rattle.std.proofs.Common.{◌≡◌, replicate}
use Rattle.deliveries.specs.Noted.{no_takes}
use Rattle.deliveries.proofs.noting.no_takes.Given as goal

abbrev pub invariant-loop-slot : goal.invariant-loop-slot
invariant-loop-slot l = l.takes.items ≡ replicate l._slot no_takes
