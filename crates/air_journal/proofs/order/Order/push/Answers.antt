use Rattle.std.proofs.Common.{sym, subst, arith}
use Rattle.air_journal.proofs.Ordering.{order-pushed}
use Rattle.air_journal.specs.Orders.{IsOrder}
use Rattle.air_journal.proofs.order.Order.push.Goals as goal

pub invariant_of-self-2 : goal.invariant_of-self-2
invariant_of-self-2 c =
    let o = order-pushed c.self.inside.passed c.self.inside.last c.self.inside.messages.items c.args.arrival c.self.invariant (omega arith) c.requires in
    subst (λ xs. IsOrder c.self.inside.passed c.args.arrival.send xs) (sym c.push_reserved.ensures.items) o
