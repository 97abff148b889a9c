use Rattle.seconds_panel.specs.Panel.{lines_marks}
use Rattle.seconds_panel.proofs.panel.put_lines.Goals as goal

pub returns : goal.returns
unfolding lines_marks
returns g c =
    g.met.D.Drawing.then _ _ _ _ _ c.put_series.ensures (g.met.D.Drawing.then _ _ _ _ _ c.put_series-2.ensures (g.met.D.Drawing.then _ _ _ _ _ c.put_series-3.ensures
    (g.met.D.Drawing.then _ _ _ _ _ c.put_series-4.ensures c.put_series-5.ensures)))
