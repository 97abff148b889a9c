use Rattle.std.proofs.Common.{◌≡◌, ◌+◌, ◌-◌, ◌<◌, option_copied, ap, sym, ◌∙◌, arith, refl}
use Rattle.acas_base.specs.Encounter.{Parts}
use Rattle.acas_base.specs.declared.TheConstants.{CRAFTS}
use Rattle.air_journal.proofs.Activity.{to-active, told-active}
use Rattle.air_journal.proofs.Bounds.{few-crafts}
use Rattle.air_journal.proofs.Looked.{ready-committed}
use Rattle.air_journal.specs.Airs.{air_of}
use Rattle.air_journal.specs.Cells.{commit_cells}
use Rattle.air_rules.specs.Journal.{commits}
use Rattle.craft_view.proofs.Looking.{may-look, moment, ready-some}
use Rattle.craft_view.specs.Views.{picture_after}
use Rattle.flight.specs.Flight.{Moment}
use Rattle.rec_audit.proofs.Asked.{hindered, no-commit}
use Rattle.rec_audit.proofs.asking.commit_like.Goals as goal
use Rattle.rec_audit.proofs.asking.commit_like.Goals.{After-legal_law, After-move_to}

pub returns-then-commits-cycle-clause-asks : goal.returns-then-commits-cycle-clause-asks
returns-then-commits-cycle-clause-asks c = no-commit (air_of c.args.state.now.encounter) c.args.state.now.journal c.args.own c.args.cycle (λ cells may. omega (arith, may.cycle_is, c.commits.ensures))

own : (c : After-legal_law) → c.args.own < CRAFTS
own c = omega (arith, c.requires.key.0, few-crafts c.args.state.now.encounter c.legal_law.ensures.valid)

next : (c : After-move_to) → commits c.args.state.now.journal c.args.own + 1 ≡ c.args.cycle
next c = omega (arith, c.commits.ensures, c.requires.key)

here : (c : After-move_to) → c.move_to.new.places ≡ moment c.args.state.now.encounter (commits c.args.state.now.journal c.args.own + 1)
here c = c.move_to.ensures ∙ ap (λ (e : Parts). moment e c.args.cycle) c.requires.same ∙ ap (moment c.args.state.now.encounter) (sym (next c))

pub look_after-requires-clause-there : goal.look_after-requires-clause-there
look_after-requires-clause-there c =
    let e = c.args.state.now.encounter in
    ready-some e (commits c.args.state.now.journal) c.args.surveillance.now.crafts c.args.own (own (goal.at.look_after-requires-clause-there c).After-legal_law) c.requires.ready (to-active e c.args.own (told-active e c.args.own c.is_active.result (rw c.enc.ensures at c.is_active.ensures) ∙ c.if-not-is_active.false))

pub look_after-requires-clause-ready : goal.look_after-requires-clause-ready
look_after-requires-clause-ready c =
    may-look c.args.state.now.encounter (commits c.args.state.now.journal) c.args.surveillance.now.crafts c.args.own (commits c.args.state.now.journal c.args.own) c.move_to.new.places
    (here (goal.at.look_after-requires-clause-ready c).After-move_to) (own (goal.at.look_after-requires-clause-ready c).After-legal_law) c.requires.ready (λ _. refl)

pub commit_after-requires-clause-picture : goal.commit_after-requires-clause-picture
commit_after-requires-clause-picture c = λ _.
    let at = (goal.at.commit_after-requires-clause-picture c).After-move_to in
    let own = c.args.own in
    let journal = c.args.state.now.journal in
    let made : c.args.cycle - 1 ≡ commits journal own = omega (arith, next at) in
    let cells : option_copied c.cells.result ≡ commit_cells journal own (commits journal own) = c.cells.ensures ∙ ap (commit_cells journal own) made in
    c.look_after.ensures.picture ∙ (λ i. picture_after (cells i) (here at i).encounter own (here at i).cycle)

pub returns-in-Done-clause-ready : goal.returns-in-Done-clause-ready
returns-in-Done-clause-ready c = λ _.
    let at = (goal.at.returns-in-Done-clause-ready c).After-move_to in
    ready-committed c.args.state.now.encounter c.args.state.now.journal c.commit_after.new.self.journal c.args.surveillance.now.crafts c.look_after.new.self.crafts c.args.own _ _ c.move_to.new.places
    (here at) c.requires.ready c.look_after.ensures.looked c.in-Done.ensures.commits

pub returns-in_default : goal.returns-in_default
returns-in_default c = record {
  encounter = c.commit_after.ensures.encounter;
  places = ap (λ (m : Moment). m.encounter) c.move_to.ensures ∙ c.requires.same;
  asks = no-commit (air_of c.args.state.now.encounter) c.args.state.now.journal c.args.own c.args.cycle
      (λ cells may. hindered (air_of c.args.state.now.encounter) c.args.state.now.journal c.commit_after.new.self.journal c.args.own c.args.cycle cells c.commit_after.result c.in_default.not-Done c.commit_after.ensures.commits may);
  ready = λ never. absurd cc;
}
