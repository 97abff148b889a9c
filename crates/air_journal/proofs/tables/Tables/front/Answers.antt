use Rattle.std.proofs.Common.{ℕ, ◌<◌, List, None, get_or, set, length, sym, ap, ◌∙◌, subst, arith}
use Rattle.air_journal.proofs.Ordering.{front-passed, front-waits, order-at, orders-set}
use Rattle.air_journal.specs.Kept.{Kept, queue_at}
use Rattle.air_journal.specs.Orders.{AreOrders, IsFront, Knows, StartsOtherwise, StartsWith, WaitsFirst, without_front}
use Rattle.air_journal.specs.Queues.{AreOrdered}
use Rattle.air_journal.specs.declared.kept.Waiting.{Waiting}
use Rattle.air_journal.proofs.tables.Tables.front.Goals as goal

pub returns-then-starts_with-clause-told : goal.returns-then-starts_with-clause-told
returns-then-starts_with-clause-told c =
    let a = c.in-Some.arrival in
    let within : c.args.own < length c.self.inside.orders.items = omega (arith, c.self.invariant.size, c.requires.own) in
    let at = order-at c.self.inside.orders.items c.args.own c.from.result c.index.result.now within c.from.ensures c.index.ensures in
    subst (λ (k : Kept). WaitsFirst k c.args.own a.sender) c.self.view_is
    (front-waits c.self.inside.rows c.args.own c.index.result.now a (subst (Knows c.self.inside.rows c.args.own) (sym at) (c.self.invariant.each c.args.own c.requires.own)) c.in-Some.ensures
    (subst (λ (q : List Waiting). StartsWith q a.send) c.queue.ensures c.if-starts_with.ensures))

pub invariant_of-self : goal.invariant_of-self
invariant_of-self c =
    let a = c.in-Some.arrival in
    let rows = c.self.inside.rows in
    let orders = c.self.inside.orders.items in
    let within : c.args.own < length orders = omega (arith, c.self.invariant.size, c.requires.own) in
    let at = order-at orders c.args.own c.from.result c.index.result.now within c.from.ensures c.index.ensures in
    let again = order-at orders c.args.own c.from-2.result c.index_mut.result.now within c.from-2.ensures c.index_mut.ensures.value in
    let front : IsFront (get_or orders c.args.own None) a = subst (λ o. IsFront o a) at c.in-Some.ensures in
    let ordered = subst (λ (k : Kept). AreOrdered (queue_at k a.sender c.args.own)) (sym c.self.view_is) (c.requires.ordered a.sender front.sender) in
    let otherwise = subst (λ (q : List Waiting). StartsOtherwise q a.send) c.queue.ensures c.if-starts_with.ensures in
    let knows = front-passed rows c.args.own (get_or orders c.args.own None) a (c.self.invariant.each c.args.own c.requires.own) front ordered otherwise in
    subst (λ (i : ℕ). AreOrders rows (set orders i c.pass.new.self)) (sym c.from-2.ensures)
    (orders-set rows orders c.args.own c.pass.new.self c.requires.own c.self.invariant (subst (Knows rows c.args.own) (sym (c.pass.ensures ∙ ap without_front again)) knows))
