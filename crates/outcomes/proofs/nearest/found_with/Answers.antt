use Rattle.air_journal.proofs.Bounds.{few-crafts}
use Rattle.outcomes.proofs.Seeking.{with-none, with-some}
use Rattle.outcomes.proofs.nearest.found_with.Goals as goal

pub returns-in-Some : goal.returns-in-Some
returns-in-Some c =
    let next = c.approach_of-next.ensures in
    with-some c.args.encounter.now c.args.a c.args.b c.args.found c.in-Some.found c.approach_of-next.result c.nearer.result (few-crafts c.args.encounter.now c.valid_law.ensures)
    c.requires.lower c.requires.higher next.low next.high next.is c.requires.found c.in-Some.is c.nearer.ensures

pub returns-in-None : goal.returns-in-None
returns-in-None c =
    let next = c.approach_of-next.ensures in
    with-none c.args.encounter.now c.args.a c.args.b c.args.found c.approach_of-next.result (few-crafts c.args.encounter.now c.valid_law.ensures)
    c.requires.lower c.requires.higher next.low next.high next.is c.requires.found c.in-None.is
