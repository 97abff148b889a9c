use Rattle.std.proofs.Common.{codes}
use Rattle.deliveries.proofs.Telling.{whole-line}
use Rattle.deliveries.specs.Rows.{rows}
use Rattle.deliveries.specs.Text.{missed_head, rows_text}
use Rattle.deliveries.proofs.lines.missed_line.Goals as goal

pub returns : goal.returns
returns c =
    whole-line (missed_head c.args.own c.args.target) (rows_text (rows c.args.cycles.now)) (codes "\n") c.missed_head-line.result c.add_rows.new.line c.text.new.self
    c.missed_head-line.ensures.value c.add_rows.ensures.added c.text.ensures.added
