use Rattle.std.proofs.Common.{◌∙◌, arith, zero-add}
use Rattle.acas_lines.proofs.Counted.{counted-few}
use Rattle.acas_lines.proofs.counting.count_lines.Goals as goal

pub returns : goal.returns
returns g c few = c.put.ensures ∙ counted-few 0 (g.T.Text.lines c.args.text.now) (omega (arith, few)) ∙ zero-add _
