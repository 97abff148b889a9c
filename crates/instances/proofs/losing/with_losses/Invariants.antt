use Rattle.instances.specs.Having.{IsAskedInside}
use Rattle.pair_ways.specs.declared.scope.Scope.TheVariants.{Losses}
use Rattle.instances.proofs.losing.with_losses.Given as goal

-- It is one that is asked about.
abbrev pub invariant-loop-at : goal.invariant-loop-at
invariant-loop-at l = IsAskedInside Losses l.encounter l.made
