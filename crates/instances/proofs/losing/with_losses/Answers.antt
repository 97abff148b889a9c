use Rattle.std.proofs.Common.{subst, sym}
use Rattle.instances.proofs.Lost.{itself, one-more}
use Rattle.instances.specs.Having.{IsAskedInside}
use Rattle.pair_ways.specs.declared.scope.Scope.TheVariants.{Losses}
use Rattle.variants.specs.Variants.{IsAnswer}
use Rattle.instances.proofs.losing.with_losses.Goals as goal

pub loop-at-init : goal.loop-at-init
loop-at-init c = subst (IsAskedInside Losses c.args.encounter.now) (sym c.in_ok-made.ensures) (itself Losses c.args.encounter.now c.requires)

pub loop-at-preserved : goal.loop-at-preserved
loop-at-preserved c = one-more c.args.encounter.now c.loop-at.made c.in-Some.next _ c.loop-at.invariant (subst (IsAnswer c.loop-at.made _) c.in-Some.is c.in_ok-next.ensures)

pub returns : goal.returns
returns c = c.loop-at.invariant
