use Rattle.std.proofs.Common.{None, Some, drop, sym, ◌∙◌, subst, arith}
use Rattle.std.proofs.lemmas.Bool.{cond-true}
use Rattle.air_journal.proofs.Ordering.{front-is}
use Rattle.air_journal.specs.Orders.{IsFront}
use Rattle.air_journal.proofs.order.Order.front.Goals as goal

pub returns : goal.returns
returns c =
    let o = c.self.inside in
    subst (λ (l : _). IsFront l c.index.result.now) (sym (cond-true o.known (Some (drop o.passed o.messages.items)) None c.if-not-self.false) ∙ c.self.view_is)
    (front-is o.passed o.last o.messages.items c.index.result.now c.self.invariant (omega (arith, c.len.ensures)) c.index.ensures)
