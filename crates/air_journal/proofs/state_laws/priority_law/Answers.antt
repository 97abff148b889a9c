use Rattle.air_journal.proofs.state_laws.priority_law.Goals as goal
use Rattle.air_journal.specs.Airs.{air_of}

pub returns-clause-onward : goal.returns-clause-onward
returns-clause-onward c =
    let e = c.args.state.now.encounter in
    c.onward_law.ensures (air_of e) c.args.state.now.journal (c.sound_law.ensures e c.legal_law.ensures.valid) c.legal_law.ensures.legal
