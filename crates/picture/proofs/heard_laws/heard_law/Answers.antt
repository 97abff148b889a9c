use Rattle.picture.proofs.Hearing.{are-in-list, are-reported}
use Rattle.picture.proofs.Gathering.{are-lines}
use Rattle.picture.proofs.heard_laws.heard_law.Goals as goal

pub returns-clause-reported : goal.returns-clause-reported
returns-clause-reported c journal = are-reported journal

pub returns-clause-within : goal.returns-clause-within
returns-clause-within c top e journal labels most = are-in-list top e journal labels most

pub returns-clause-lines : goal.returns-clause-lines
returns-clause-lines c journal count = are-lines journal count
