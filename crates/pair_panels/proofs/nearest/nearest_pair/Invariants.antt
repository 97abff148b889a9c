use Rattle.std.proofs.Common.{◌≡◌}
use Rattle.std.specs.Prelude.{IfSome}
use Rattle.pair_panels.specs.Nearest.{IsPair, nearest_of}
use Rattle.pair_panels.proofs.nearest.nearest_pair.Given as goal

-- The nearest of the pairs with the numbers so far.
abbrev pub invariant-loop-number : goal.invariant-loop-number
invariant-loop-number l = (l.best ≡ nearest_of l.encounter l.number) × IfSome l.best (IsPair l.encounter)
