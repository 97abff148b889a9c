use Rattle.std.proofs.Common.{ℕ, ◌<◌, set, length, sym, refl, subst, arith}
use Rattle.air_journal.proofs.Ordering.{order-at, orders-send}
use Rattle.air_journal.proofs.Queued.{copies-are}
use Rattle.air_journal.specs.Orders.{AreOrders, Pushed}
use Rattle.air_journal.specs.declared.order.Arrival.{Arrival}
use Rattle.air_journal.proofs.tables.Tables.send.Goals as goal

pub invariant_of-self : goal.invariant_of-self
invariant_of-self c =
    let orders = c.self.inside.orders.items in
    let arrival : Arrival = record { send = c.args.send; sender = c.args.own } in
    let within : c.args.target < length orders = omega (arith, c.self.invariant.size, c.requires.target) in
    let at = order-at orders c.args.target c.from.result c.index_mut.result.now within c.from.ensures c.index_mut.ensures.value in
    subst (λ (i : ℕ). AreOrders c.send.new.self (set orders i c.push.new.self)) (sym c.from.ensures)
    (orders-send c.self.inside.rows c.send.new.self orders c.args.own c.args.target c.args.send c.args.vrc _ arrival c.push.new.self c.requires.target (λ w h. (copies-are _ _ _ _ _ w h).send_is) refl refl c.send.ensures
    (subst (λ o. Pushed o arrival c.push.new.self) at c.push.ensures) c.self.invariant)
