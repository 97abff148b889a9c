use Rattle.std.proofs.Common.{List, sym, ◌∙◌, subst}
use Rattle.air_journal.proofs.Finding.{one-queue}
use Rattle.air_journal.specs.Found.{NotDueIn}
use Rattle.air_journal.specs.declared.kept.Waiting.{Waiting}
use Rattle.air_journal.proofs.due.find_copy.Goals as goal

pub returns-in-None : goal.returns-in-None
returns-in-None c =
    one-queue c.args.journal.now.entries c.args.tables.now c.args.own c.args.made c.args.send c.args.copy c.args.count c.requires.senders c.in-Some.sender (sym c.sender_at.ensures ∙ c.in-Some.is)
    (subst (λ (ws : List Waiting). NotDueIn ws c.args.made c.args.send c.args.copy) c.queue.ensures c.in-None.ensures)
