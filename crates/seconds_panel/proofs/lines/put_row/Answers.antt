use Rattle.seconds_panel.specs.Lines.{row_marks}
use Rattle.seconds_panel.proofs.lines.put_row.Goals as goal

pub returns : goal.returns
unfolding row_marks
returns g c = rw c.row_title-title.ensures.text at c.put_row_mark.ensures
