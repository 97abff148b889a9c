use Rattle.std.proofs.Common.{◌<◌, ◌^◌, ℕ, sym, subst}
use Rattle.summary.proofs.Far.{near}
use Rattle.summary.proofs.approach.slant.Goals as goal

pub returns-clause-near : goal.returns-clause-near
returns-clause-near c = subst (λ (r : ℕ). r < 2 ^ 32) (sym c.slant_range.ensures) (near c.position.result c.position-2.result c.position.ensures.bounds c.position-2.ensures.bounds)
