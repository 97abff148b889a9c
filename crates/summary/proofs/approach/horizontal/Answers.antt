use Rattle.std.proofs.Common.{◌<◌, ◌^◌, ℕ, sym, subst}
use Rattle.summary.proofs.Far.{near}
use Rattle.summary.proofs.approach.horizontal.Goals as goal

pub returns-clause-near : goal.returns-clause-near
returns-clause-near c = subst (λ (r : ℕ). r < 2 ^ 32) (sym c.slant_range.ensures) (near c.below.result c.below-2.result c.below.ensures.reachable c.below-2.ensures.reachable)
