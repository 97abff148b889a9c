use Rattle.rec_text.proofs.HighBytes.{entry-is-line}
use Rattle.rec_text.proofs.OneEntry.{line-same}
use Rattle.rec_text.proofs.laws.line_law.Goals as goal

pub returns-clause-line : goal.returns-clause-line
returns-clause-line c = entry-is-line

pub returns-clause-entry : goal.returns-clause-entry
returns-clause-entry c = line-same
