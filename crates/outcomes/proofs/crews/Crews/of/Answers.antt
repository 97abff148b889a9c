use Rattle.std.proofs.Common.{length}
use Rattle.air_journal.proofs.Bounds.{few-crafts}
use Rattle.outcomes.proofs.Keeping.{all-kept}
use Rattle.outcomes.proofs.crews.Crews.of.Goals as goal

pub returns : goal.returns
returns c =
    let e = c.args.state.now.encounter in
    all-kept c.args.state.now.journal (length e.crafts) e.cycles c.keep_all.result (few-crafts e c.legal_law.ensures.valid) c.keep_all.ensures
