use Rattle.std.proofs.Common.{sym, arith}
use Rattle.air_journal.specs.Airs.{air_of}
use Rattle.rec_audit.proofs.AllowedCommit.{commit-of}
use Rattle.rec_audit.proofs.Asked.{commit-added, hindered}
use Rattle.rec_audit.proofs.allowed.add_commit.Goals as goal

pub next_picture-picture-requires-clause-left : goal.next_picture-picture-requires-clause-left
next_picture-picture-requires-clause-left c =
    let may = (commit-of (air_of c.args.state.now.encounter) c.args.state.now.journal c.args.own c.args.cycle c.requires.some).may in
    omega (arith, may.cycle_is, may.in_run)

pub unreachable-requires : goal.unreachable-requires
unreachable-requires c =
    let some = commit-of (air_of c.args.state.now.encounter) c.args.state.now.journal c.args.own c.args.cycle c.requires.some in
    hindered (air_of c.args.state.now.encounter) c.args.state.now.journal c.commit.new.self.journal c.args.own c.args.cycle some.cells c.commit.result c.in_default.not-Done c.commit.ensures.commits some.may

pub returns-clause-added : goal.returns-clause-added
returns-clause-added c =
    let some = commit-of (air_of c.args.state.now.encounter) c.args.state.now.journal c.args.own c.args.cycle c.requires.some in
    commit-added (air_of c.args.state.now.encounter) c.args.state.now.journal c.commit.new.self.journal c.args.own c.args.cycle c.in-Done.field-0 c.in-Done.ensures.commits (sym some.may.cycle_is)
