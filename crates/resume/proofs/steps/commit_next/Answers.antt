use Rattle.std.proofs.Common.{ℕ, ◌+◌, ◌<◌, length, ap, ◌∙◌, subst, refl}
use Rattle.acas_base.specs.Encounter.{Parts}
use Rattle.acas_base.specs.declared.TheConstants.{CRAFTS}
use Rattle.air_journal.proofs.Bounds.{active-is, below-all}
use Rattle.air_journal.proofs.Looked.{ready-committed}
use Rattle.air_journal.specs.Airs.{air_of}
use Rattle.air_journal.specs.Calls.{Commits}
use Rattle.air_rules.specs.Journal.{commits}
use Rattle.craft_view.proofs.Looking.{may-look, moment, ready-some}
use Rattle.resume.proofs.Turns.{commit-done}
use Rattle.resume.proofs.steps.commit_next.Goals as goal

pub returns-clause-commits : goal.returns-clause-commits
returns-clause-commits c =
    commit-done (air_of c.args.enc.now) c.args.state.now.journal c.commit.new.self.journal c.args.own c.commit.result c.requires.free
    (subst (λ (e : Parts). Commits (air_of e) c.args.state.now.journal c.args.own c.commit.new.self.journal c.commit.result) c.requires.same c.commit.ensures.commits)

pub returns-clause-ready : goal.returns-clause-ready
returns-clause-ready c =
    let e = c.args.enc.now in
    let done = commit-done (air_of e) c.args.state.now.journal c.commit.new.self.journal c.args.own c.commit.result c.requires.free
    (subst (λ (e : Parts). Commits (air_of e) c.args.state.now.journal c.args.own c.commit.new.self.journal c.commit.result) c.requires.same c.commit.ensures.commits) in
    ready-committed e c.args.state.now.journal c.commit.new.self.journal c.args.surveillance.now.crafts c.look.new.self.crafts c.args.own (length c.args.state.now.journal) c.look.new.self.picture c.new-places.result
    (c.new-places.ensures ∙ ap (λ (n : ℕ). moment e (n + 1)) c.commits.ensures) c.requires.ready c.look.ensures done

pub look-requires-clause-there : goal.look-requires-clause-there
look-requires-clause-there c =
    let e = c.args.enc.now in
    let within = below-all e c.valid_law.ensures c.args.own (active-is e c.args.own c.requires.active) in
    ready-some e (commits c.args.state.now.journal) c.args.surveillance.now.crafts c.args.own within c.requires.ready c.requires.active

pub look-requires-clause-ready : goal.look-requires-clause-ready
look-requires-clause-ready c =
    let e = c.args.enc.now in
    let within : c.args.own < CRAFTS = below-all e c.valid_law.ensures c.args.own (active-is e c.args.own c.requires.active) in
    may-look e (commits c.args.state.now.journal) c.args.surveillance.now.crafts c.args.own (commits c.args.state.now.journal c.args.own) c.new-places.result
    (c.new-places.ensures ∙ ap (λ (n : ℕ). moment e (n + 1)) c.commits.ensures) within c.requires.ready (λ _. refl)
