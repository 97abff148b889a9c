use Rattle.std.proofs.Common.{rules}
use Rattle.std.specs.Prelude.{nat_lt}
use Rattle.std.proofs.lemmas.Fn.{always_returns_same}
use Rattle.std.proofs.lemmas.List.Sorted.{IsPartitionedBy-ltb}
use Rattle.acas_base.specs.declared.craft.Leg.{Leg}
use Rattle.flight.proofs.Courses.{crafts-rise}
use Rattle.flight.proofs.course.count_before.Goals as goal

pub returns-clause-parted : goal.returns-clause-parted
returns-clause-parted c =
    c.partition_point.ensures.partitioned (λ (leg : Leg). nat_lt leg.craft c.args.craft) (always_returns_same _ _ _ (λ a r f' k. search rules))
    (IsPartitionedBy-ltb (λ (leg : Leg). leg.craft) c.args.legs.now c.args.craft (crafts-rise c.args.legs.now c.requires))
