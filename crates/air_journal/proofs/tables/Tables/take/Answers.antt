use Rattle.air_journal.proofs.Ordering.{orders-take}
use Rattle.air_journal.proofs.tables.Tables.take.Goals as goal

pub invariant_of-self : goal.invariant_of-self
invariant_of-self c = orders-take c.self.inside.rows c.take.new.self c.self.inside.orders.items c.args.own c.args.sender c.args.place c.args.reads c.take.ensures c.self.invariant
