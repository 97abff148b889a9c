use Rattle.std.proofs.Common.{◌<◌, length, sym, ◌∙◌, subst, arith}
use Rattle.air_journal.proofs.Ordering.{order-at}
use Rattle.air_journal.specs.Kept.{Kept, queue_at}
use Rattle.air_journal.specs.Orders.{Knows}
use Rattle.air_journal.specs.Queues.{IsIn}
use Rattle.air_journal.proofs.tables.Tables.is_quiet.Goals as goal

pub returns : goal.returns
returns c = λ over s below w here.
    let orders = c.self.inside.orders.items in
    let within : c.args.own < length orders = omega (arith, c.self.invariant.size, c.requires) in
    let at = order-at orders c.args.own c.from.result c.index.result.now within c.from.ensures c.index.ensures in
    subst (Knows c.self.inside.rows c.args.own) (sym at ∙ c.is_over.ensures over) (c.self.invariant.each c.args.own c.requires)
    s below w (subst (λ (k : Kept). IsIn w (queue_at k s c.args.own)) (sym c.self.view_is) here)
