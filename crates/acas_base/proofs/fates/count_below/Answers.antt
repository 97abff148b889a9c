use Rattle.std.proofs.Common.{rules}
use Rattle.std.proofs.lemmas.Fn.{always_returns_same}
use Rattle.acas_base.specs.Order.{is_below}
use Rattle.acas_base.proofs.ByKey.{keys-parted}
use Rattle.acas_base.proofs.fates.count_below.Goals as goal

pub returns-clause-parted : goal.returns-clause-parted
returns-clause-parted g c =
    c.partition_point.ensures.partitioned (λ it. is_below (g.T.Keyed.key_of it) c.args.wanted) (always_returns_same _ _ _ (λ a r f' k. search rules))
    (keys-parted g.T.Keyed.key_of c.args.records.now c.args.wanted c.requires)
