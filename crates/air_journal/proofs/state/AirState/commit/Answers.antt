use Rattle.air_journal.proofs.Showing.{whole-suffices}
use Rattle.air_journal.proofs.state.AirState.commit.Goals as goal

pub add_commit-requires-clause-picture : goal.add_commit-requires-clause-picture
add_commit-requires-clause-picture c = whole-suffices c.args.self.now.encounter c.args.self.now.journal c.args.own c.args.pic.now (c.requires.picture c.in-None.ensures.left)

pub returns-in-Some-clause-legal : goal.returns-in-Some-clause-legal
returns-in-Some-clause-legal c = c.legal_law.ensures.legal
