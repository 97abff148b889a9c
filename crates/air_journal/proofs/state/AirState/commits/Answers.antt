use Rattle.std.proofs.Common.{sym, ap, ◌∙◌, arith}
use Rattle.air_journal.proofs.Bounds.{commits-past}
use Rattle.air_journal.proofs.state.AirState.commits.Goals as goal
use Rattle.air_journal.specs.States.{State}
use Rattle.air_rules.specs.Journal.{commits}

pub returns-then-own-count_of : goal.returns-then-own-count_of
returns-then-own-count_of c =
    let h = c.self.invariant.whole in
    sym (commits-past c.self.inside.encounter c.self.inside.journal.entries h.is_journal.valid h.is_journal.legal c.args.own (omega (arith, c.count_of.ensures.value))) ∙ ap (λ (s : State). commits s.journal c.args.own) c.self.view_is
