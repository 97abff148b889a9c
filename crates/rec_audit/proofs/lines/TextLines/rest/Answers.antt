use Rattle.std.proofs.Common.{◌∙◌, sym, ap}
use Rattle.acas_lines.proofs.Splitting.{joined-split}
use Rattle.acas_lines.specs.Lines.{joined}
use Rattle.rec_audit.specs.Cursors.{Cursor}
use Rattle.rec_audit.proofs.lines.TextLines.rest.Goals as goal

pub returns : goal.returns
returns c = sym (joined-split c.self.inside.rest.now) ∙ ap (λ (cursor : Cursor). joined cursor.left) c.self.view_is
