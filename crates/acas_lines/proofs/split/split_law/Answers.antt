use Rattle.std.proofs.lemmas.List.Elements.{recursion_from_All}
use Rattle.acas_lines.specs.Split.{IsLine}
use Rattle.acas_lines.proofs.Splitting.{few-lines, joined-split, some-line, split-joined}
use Rattle.acas_lines.proofs.split.split_law.Goals as goal

pub returns-clause-split : goal.returns-clause-split
returns-clause-split c = λ lines each. split-joined lines (recursion_from_All IsLine lines each)

pub returns-clause-joined : goal.returns-clause-joined
returns-clause-joined c = joined-split

pub returns-clause-few : goal.returns-clause-few
returns-clause-few c = few-lines

pub returns-clause-some : goal.returns-clause-some
returns-clause-some c = some-line
