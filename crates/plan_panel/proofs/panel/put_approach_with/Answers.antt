use Rattle.plan_panel.proofs.panel.put_approach_with.Goals as goal

pub returns : goal.returns
returns g c = g.met.D.Drawing.then _ _ _ _ _ c.put_cross_of.ensures (g.met.D.Drawing.then _ _ _ _ _ c.put_cross_of-2.ensures c.put_between.ensures)
