use Rattle.std.proofs.Common.{◌<◌, ◌^◌, ℕ, sym, subst}
use Rattle.outcomes.proofs.Far.{near}
use Rattle.outcomes.proofs.nearest.range_in.Goals as goal

pub returns-clause-near : goal.returns-clause-near
returns-clause-near c = subst (λ (r : ℕ). r < 2 ^ 32) (sym c.slant_range.ensures) (near c.position.result c.position-2.result c.position.ensures.bounds c.position-2.ensures.bounds)
