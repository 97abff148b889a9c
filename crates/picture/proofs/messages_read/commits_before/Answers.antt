use Rattle.std.proofs.Common.{ℕ, ◌+◌, ◌-◌, ◌≤◌, subst}
use Rattle.picture.proofs.Messaging.{commits-few}
use Rattle.picture.proofs.messages_read.commits_before.Goals as goal

pub returns-in-Some-clause-most : goal.returns-in-Some-clause-most
returns-in-Some-clause-most c =
    subst (λ (n : ℕ). n ≤ c.args.state.now.encounter.cycles) c.in-Some.ensures
    (commits-few c.args.state.now.encounter c.args.state.now.journal c.args.own (c.args.position - 1 - c.loop-back.back + 1) c.legal_law.ensures.legal)
