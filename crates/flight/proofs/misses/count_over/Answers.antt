use Rattle.std.proofs.Common.{rules}
use Rattle.std.proofs.lemmas.Fn.{always_returns_same}
use Rattle.acas_base.specs.Order.{is_below}
use Rattle.acas_base.specs.declared.craft.Miss.{Miss}
use Rattle.flight.proofs.Missing.{misses-parted}
use Rattle.flight.proofs.misses.count_over.Goals as goal

pub returns-clause-parted : goal.returns-clause-parted
returns-clause-parted c =
    c.partition_point.ensures.partitioned (λ (m : Miss). is_below (m.own, m.target, m.to) (c.args.own, c.args.target, c.args.cycle)) (always_returns_same _ _ _ (λ a r f' k. search rules))
    (misses-parted c.args.misses.now c.args.own c.args.target c.args.cycle c.requires.rising c.requires.order)
