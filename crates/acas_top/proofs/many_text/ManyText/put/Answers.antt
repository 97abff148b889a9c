use Rattle.acas_top.proofs.many_text.ManyText.put.Goals as goal

pub returns : goal.returns
returns g c =
    let then = g.met.S.LineSink.then in
    rw (c.count_line.ensures, c.sums_line.ensures, c.sums_of.ensures, c.list-list.ensures.value) at (then _ _ _ _ _ c.line.ensures (then _ _ _ _ _ c.put_pieces.ensures c.line-2.ensures))
