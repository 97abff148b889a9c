use Rattle.picture.proofs.legend.put_legend.Goals as goal

pub returns : goal.returns
returns g c =
    let signs = g.met.D.Drawing.then _ _ _ _ _ c.put_sample.ensures (g.met.D.Drawing.then _ _ _ _ _ c.put_sample-2.ensures c.put_remarks.ensures) in
    let boxes = g.met.D.Drawing.then _ _ _ _ _ c.put_item-3.ensures (g.met.D.Drawing.then _ _ _ _ _ c.put_item-4.ensures signs) in
    g.met.D.Drawing.then _ _ _ _ _ c.put_item.ensures (g.met.D.Drawing.then _ _ _ _ _ c.put_item-2.ensures boxes)
