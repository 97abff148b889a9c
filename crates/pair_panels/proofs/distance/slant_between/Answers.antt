use Rattle.std.proofs.Common.{◌<◌, ◌^◌, ℕ, sym, subst}
use Rattle.pair_panels.proofs.Far.{near}
use Rattle.pair_panels.proofs.distance.slant_between.Goals as goal

pub returns-clause-near : goal.returns-clause-near
returns-clause-near c = subst (λ (r : ℕ). r < 2 ^ 26) (sym c.slant_range.ensures) (near c.position.result c.position-2.result c.position.ensures.bounds c.position-2.ensures.bounds)
