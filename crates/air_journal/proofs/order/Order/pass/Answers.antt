use Rattle.std.proofs.Common.{ap, ◌∙◌, arith}
use Rattle.air_journal.proofs.Ordering.{order-passed, pass-is}
use Rattle.air_journal.specs.Orders.{without_front}
use Rattle.air_journal.proofs.order.Order.pass.Goals as goal

pub invariant_of-self : goal.invariant_of-self
invariant_of-self c = order-passed c.self.inside.passed c.self.inside.last c.self.inside.messages.items c.self.invariant (omega (arith, c.len.ensures))

pub returns-then-self-len : goal.returns-then-self-len
returns-then-self-len c = pass-is c.self.inside.known c.self.inside.passed c.self.inside.messages.items ∙ ap without_front c.self.view_is
