use Rattle.picture.proofs.messages.put_messages.Goals as goal

pub returns : goal.returns
returns g c =
    let arrows = rw c.state.ensures at c.put_arrows.ensures in
    g.met.D.Drawing.then _ _ _ _ _ arrows (g.met.D.Drawing.then _ _ _ _ _ c.put_mishaps.ensures c.put_mishaps-2.ensures)
