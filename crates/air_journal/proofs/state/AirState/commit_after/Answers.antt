use Rattle.air_journal.proofs.Showing.{after-suffices}
use Rattle.air_journal.proofs.state.AirState.commit_after.Goals as goal

pub add_commit-requires-clause-picture : goal.add_commit-requires-clause-picture
add_commit-requires-clause-picture c =
    after-suffices c.args.self.now.encounter c.args.self.now.journal c.legal_law.ensures.legal c.args.own c.args.pic.now (c.requires.picture c.in-None.ensures.left)

pub returns-in-Some-clause-legal : goal.returns-in-Some-clause-legal
returns-in-Some-clause-legal c = c.legal_law.ensures.legal
