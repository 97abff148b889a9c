use Rattle.seconds_panel.proofs.panel.put_legend.Goals as goal

pub returns : goal.returns
returns g c =
    g.met.D.Drawing.then _ _ _ _ _ c.put_legend_at.ensures (g.met.D.Drawing.then _ _ _ _ _ c.put_legend_at-2.ensures (g.met.D.Drawing.then _ _ _ _ _ c.put_legend_at-3.ensures
    (g.met.D.Drawing.then _ _ _ _ _ c.put_legend_at-4.ensures c.put_legend_at-5.ensures)))
