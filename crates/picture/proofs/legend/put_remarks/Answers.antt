use Rattle.picture.proofs.legend.put_remarks.Goals as goal

pub returns : goal.returns
returns g c =
    let end = g.met.D.Drawing.then _ _ _ _ _ c.put_remark-3.ensures c.put_remark-4.ensures in
    g.met.D.Drawing.then _ _ _ _ _ c.put_remark.ensures (g.met.D.Drawing.then _ _ _ _ _ c.put_remark-2.ensures end)
