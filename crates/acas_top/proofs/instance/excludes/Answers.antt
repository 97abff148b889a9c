use Rattle.std.proofs.Common.{subst}
use Rattle.instances.specs.Having.{Has}
use Rattle.acas_top.proofs.instance.excludes.Goals as goal

pub returns-in-Word : goal.returns-in-Word
returns-in-Word c = λ never journal covered has.
    let had = subst (Has journal) c.in-Word.is has in
    c.excludes_word.ensures never journal had.cells covered had.are had.says

pub returns-in-Equal : goal.returns-in-Equal
returns-in-Equal c = λ never journal covered has.
    let had = subst (Has journal) c.in-Equal.is has in
    c.excludes_row.ensures never journal had.first covered had.begun had.equal
