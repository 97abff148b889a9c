use Rattle.std.proofs.Common.{MatchOption, sym, ap, ◌∙◌, subst}
use Rattle.acas_base.specs.declared.TheConstants.{CRAFTS}
use Rattle.air_journal.proofs.Ordering.{first-waits}
use Rattle.air_journal.specs.Found.{IsLeast, NoneOf}
use Rattle.air_journal.specs.Kept.{Kept, queue_at}
use Rattle.air_journal.specs.Orders.{WaitsFirst}
use Rattle.air_journal.specs.Queues.{AreOrdered}
use Rattle.air_journal.proofs.due.next_due.Goals as goal

pub front-requires-clause-ordered : goal.front-requires-clause-ordered
front-requires-clause-ordered c = λ s h. subst (λ (k : Kept). AreOrdered (queue_at k s c.args.own)) (sym c.loop-turn.invariant) (c.requires.ordered s h)

pub returns-then-first-made-clause-found : goal.returns-then-first-made-clause-found
returns-then-first-made-clause-found c =
    let same = c.front.ensures.same ∙ c.loop-turn.invariant in
    first-waits c.args.tables.now c.args.own c.args.made c.in-Waits.sender _ c.queue.result.now
    (subst (λ (k : Kept). WaitsFirst k c.args.own c.in-Waits.sender) c.loop-turn.invariant c.in-Waits.ensures.told)
    (c.queue.ensures ∙ ap (λ (k : Kept). queue_at k c.in-Waits.sender c.args.own) same) c.if-first-made.true

pub returns-in-Waits-clause-found : goal.returns-in-Waits-clause-found
returns-in-Waits-clause-found c =
    subst (λ (k : Kept). MatchOption c.first_due_to.result (NoneOf k c.args.own c.args.made CRAFTS) (IsLeast k c.args.own c.args.made CRAFTS)) (c.front.ensures.same ∙ c.loop-turn.invariant) c.first_due_to.ensures

pub returns-in-Unknown-clause-found : goal.returns-in-Unknown-clause-found
returns-in-Unknown-clause-found c =
    subst (λ (k : Kept). MatchOption c.first_due_to-in-Unknown.result (NoneOf k c.args.own c.args.made CRAFTS) (IsLeast k c.args.own c.args.made CRAFTS)) (c.front.ensures.same ∙ c.loop-turn.invariant) c.first_due_to-in-Unknown.ensures

pub returns-clause-found : goal.returns-clause-found
returns-clause-found c =
    subst (λ (k : Kept). MatchOption c.first_due_to-2.result (NoneOf k c.args.own c.args.made CRAFTS) (IsLeast k c.args.own c.args.made CRAFTS)) c.loop-turn.invariant c.first_due_to-2.ensures
