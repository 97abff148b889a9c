use Rattle.std.proofs.Common.{◌≡◌, ℕ, ◌+◌, List, Option, MatchOption, subst, sym, arith}
use Rattle.air_journal.proofs.Finding.{Best, best-more}
use Rattle.air_journal.proofs.due.first_due_to.Goals as goal
use Rattle.air_journal.specs.Queues.{IsFirstDueAt, NoneDue}
use Rattle.air_journal.specs.declared.due.Found.{Found}
use Rattle.air_journal.specs.declared.kept.Waiting.{Waiting}

pub loop-sender-preserved : goal.loop-sender-preserved
loop-sender-preserved c =
    let s = c.loop-sender.sender in
    let d = subst (λ (ws : List Waiting). MatchOption c.first_due.result (NoneDue ws c.args.made) (λ d. IsFirstDueAt ws c.args.made d.place d.waiting)) c.queue-queue.ensures c.first_due.ensures in
    subst (λ (o : Option Found). Best c.args.tables.now c.args.own c.args.made (s + 1) o) (sym c.earlier-best.ensures)
    (best-more c.args.tables.now c.args.own c.args.made s c.loop-sender.best c.first_due.result (c.requires.ordered s (omega arith)) c.loop-sender.invariant d)

pub returns : goal.returns
returns c = subst (λ (n : ℕ). Best c.args.tables.now c.args.own c.args.made n c.loop-sender.best) (let e : c.loop-sender.sender ≡ c.args.count = omega arith in e) c.loop-sender.invariant

pub returns-then-is_quiet : goal.returns-then-is_quiet
returns-then-is_quiet c = λ s below w here. absurd (c.is_quiet.ensures c.if-is_quiet.true s (omega (arith, below, c.requires.count)) w here)
