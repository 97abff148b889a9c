use Rattle.std.proofs.Common.{ℕ, get_or, Option, None, sym, ap, ◌∙◌, subst}
use Rattle.std.specs.Prelude.{IfSome}
use Rattle.air_journal.specs.Airs.{air_of}
use Rattle.air_journal.specs.States.{State}
use Rattle.summary.specs.Kept.{past_end}
use Rattle.summary.specs.Stretches.{IsInRun}
use Rattle.summary.specs.declared.rows.Start.{Start}
use Rattle.summary.proofs.Starting.{in-run}
use Rattle.summary.proofs.page.Page.start.Goals as goal

pub returns-clause-run : goal.returns-clause-run
returns-clause-run c =
    let e = c.self.inside.state.now.encounter in
    let J = c.self.inside.state.now.journal in
    let rows = c.self.inside.rows in
    let place = c.args.place in
    let row = c.self.invariant.rows_are.row c.args.own c.args.other c.requires.own c.requires.other in
    subst (λ (s : State). IfSome (get_or (get_or rows c.pair_of.result past_end).first place None) (IsInRun s.encounter.cycles)) c.self.view_is
    (subst (λ (o : Option Start). IfSome o (IsInRun e.cycles)) (sym (ap (λ (n : ℕ). get_or (get_or rows n past_end).first place None) c.pair_of.ensures ∙ row.each place c.requires.place))
    (in-run (air_of e) J c.legal_law.ensures.legal c.args.own c.args.other place))
