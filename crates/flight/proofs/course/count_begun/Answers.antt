use Rattle.std.proofs.Common.{rules}
use Rattle.std.specs.Prelude.{nat_le}
use Rattle.std.proofs.lemmas.Fn.{always_returns_same}
use Rattle.acas_base.specs.declared.craft.Leg.{Leg}
use Rattle.flight.proofs.Stepping.{begun-parted}
use Rattle.flight.proofs.course.count_begun.Goals as goal

pub returns-clause-parted : goal.returns-clause-parted
returns-clause-parted c =
    c.partition_point.ensures.partitioned (λ (leg : Leg). nat_le leg.from c.args.cycle) (always_returns_same _ _ _ (λ a r f' k. search rules))
    (begun-parted c.args.legs.now c.args.cycle c.requires)
