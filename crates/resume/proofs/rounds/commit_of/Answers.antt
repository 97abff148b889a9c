use Rattle.std.proofs.Common.{◌≡◌, ℕ, ◌+◌, ◌<◌, true, length, option_copied, sym, ap, ◌∙◌, subst, arith}
use Rattle.acas_base.specs.Encounter.{Parts}
use Rattle.acas_base.specs.declared.TheConstants.{CRAFTS}
use Rattle.air_journal.proofs.Bounds.{active-is, few-crafts}
use Rattle.air_journal.proofs.Looked.{ready-committed}
use Rattle.air_journal.specs.Airs.{air_of}
use Rattle.air_journal.specs.Calls.{Commits}
use Rattle.air_journal.specs.Cells.{commit_cells}
use Rattle.air_rules.specs.Air.{is_active}
use Rattle.air_rules.specs.Journal.{commits}
use Rattle.craft_view.proofs.Looking.{may-look, moment, ready-some}
use Rattle.craft_view.specs.Kept.{IsActive}
use Rattle.craft_view.specs.Views.{picture_after}
use Rattle.air_journal.proofs.Activity.{to-active, told-active}
use Rattle.resume.proofs.Turns.{commit-done, commit-one, commit-skip, free-before}
use Rattle.resume.specs.Filling.{unfilled}
use Rattle.resume.proofs.rounds.commit_of.Goals as goal
use Rattle.resume.proofs.rounds.commit_of.Goals.{After-is_active, After-look_after}

pub returns-then-not-is_active : goal.returns-then-not-is_active
returns-then-not-is_active c = record {
  encounter = c.requires.same;
  fills = unfilled;
  ready = c.requires.ready;
  after = commit-skip (air_of c.args.enc.now) c.args.state.now.journal c.args.own c.args.done (told-active c.args.enc.now c.args.own c.is_active.result c.is_active.ensures ∙ c.if-not-is_active.true) c.requires.before;
}

own : (c : After-is_active) → c.args.own < CRAFTS
own c = omega (arith, c.requires.own, few-crafts c.args.enc.now c.valid_law.ensures)

active : (c : After-look_after) → is_active (air_of c.args.enc.now) c.args.own ≡ true
active c = told-active c.args.enc.now c.args.own c.is_active.result c.is_active.ensures ∙ c.if-not-is_active.false

mine : (c : After-look_after) → commits c.args.state.now.journal c.args.own ≡ c.args.done
mine c = c.requires.before.others c.args.own (active c) (omega arith)

pub look_after-requires-clause-there : goal.look_after-requires-clause-there
look_after-requires-clause-there c =
    ready-some c.args.enc.now (commits c.args.state.now.journal) c.args.surveillance.now.crafts c.args.own (own (goal.at.look_after-requires-clause-there c).After-is_active) c.requires.ready
    (to-active c.args.enc.now c.args.own (told-active c.args.enc.now c.args.own c.is_active.result c.is_active.ensures ∙ c.if-not-is_active.false))

pub look_after-requires-clause-ready : goal.look_after-requires-clause-ready
look_after-requires-clause-ready c =
    may-look c.args.enc.now (commits c.args.state.now.journal) c.args.surveillance.now.crafts c.args.own c.args.done c.args.places.now c.requires.places (own (goal.at.look_after-requires-clause-ready c).After-is_active) c.requires.ready
    (λ a. c.requires.before.others c.args.own (active-is c.args.enc.now c.args.own a) (omega arith))

pub commit_after-requires-clause-active : goal.commit_after-requires-clause-active
commit_after-requires-clause-active c =
    subst (λ (e : Parts). IsActive e c.args.own) (sym c.requires.same) (to-active c.args.enc.now c.args.own (active (goal.at.commit_after-requires-clause-active c).After-look_after))

pub commit_after-requires-clause-picture : goal.commit_after-requires-clause-picture
commit_after-requires-clause-picture c = λ _.
    let at = (goal.at.commit_after-requires-clause-picture c).After-look_after in
    let own = c.args.own in
    let journal = c.args.state.now.journal in
    let made : c.args.done ≡ commits journal own = sym (mine at) in
    let cells : option_copied c.cells.result ≡ commit_cells journal own (commits journal own) = c.cells.ensures ∙ ap (commit_cells journal own) made in
    let here : c.args.places.now ≡ moment c.args.state.now.encounter (commits journal own + 1) =
    c.requires.places ∙ (λ i. moment (sym c.requires.same i) (made i + 1)) in
    c.look_after.ensures.picture ∙ (λ i. picture_after (cells i) (here i).encounter own (here i).cycle)

pub returns-clause-fills : goal.returns-clause-fills
returns-clause-fills c =
    (commit-one (air_of c.args.enc.now) c.args.state.now.journal c.commit_after.new.self.journal c.args.own c.args.done c.commit_after.result c.requires.before (active (goal.at.returns-clause-fills c).After-look_after) c.requires.left
    (subst (λ (e : Parts). Commits (air_of e) c.args.state.now.journal c.args.own c.commit_after.new.self.journal c.commit_after.result) c.requires.same c.commit_after.ensures.commits)).fills

pub returns-clause-after : goal.returns-clause-after
returns-clause-after c =
    (commit-one (air_of c.args.enc.now) c.args.state.now.journal c.commit_after.new.self.journal c.args.own c.args.done c.commit_after.result c.requires.before (active (goal.at.returns-clause-after c).After-look_after) c.requires.left
    (subst (λ (e : Parts). Commits (air_of e) c.args.state.now.journal c.args.own c.commit_after.new.self.journal c.commit_after.result) c.requires.same c.commit_after.ensures.commits)).after

pub returns-clause-ready : goal.returns-clause-ready
returns-clause-ready c =
    let at = (goal.at.returns-clause-ready c).After-look_after in
    let air = air_of c.args.enc.now in
    let done = commit-done air c.args.state.now.journal c.commit_after.new.self.journal c.args.own c.commit_after.result (free-before air c.args.state.now.journal c.args.own c.args.done c.requires.before (active at) c.requires.left)
    (subst (λ (e : Parts). Commits (air_of e) c.args.state.now.journal c.args.own c.commit_after.new.self.journal c.commit_after.result) c.requires.same c.commit_after.ensures.commits) in
    ready-committed c.args.enc.now c.args.state.now.journal c.commit_after.new.self.journal c.args.surveillance.now.crafts c.look_after.new.self.crafts c.args.own (length c.args.state.now.journal) _ c.args.places.now
    (c.requires.places ∙ ap (λ (n : ℕ). moment c.args.enc.now (n + 1)) (sym (mine at))) c.requires.ready c.look_after.ensures.looked done
