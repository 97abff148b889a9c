use Rattle.acas_top.proofs.sweep_text.SweptText.put.Goals as goal

pub returns : goal.returns
returns g c =
    let then = g.met.S.LineSink.then in
    rw (← c.from.ensures, ← c.count_line.ensures, ← c.total_line.ensures, ← c.deref.ensures.value) (then _ _ _ _ _ c.line.ensures (then _ _ _ _ _ c.put_numbers.ensures c.line-2.ensures))
