use Rattle.rec_audit.proofs.FirstLine.{empty-lines}
use Rattle.rec_audit.proofs.lines.TextLines.is_done.Goals as goal

pub returns : goal.returns
returns c = rw (← c.self.view_is) (empty-lines c.self.inside.rest.now c.is_empty.result c.is_empty.ensures)
