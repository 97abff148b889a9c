use Rattle.seeing_tests.proofs.acas_lines_tests.CountsText.put.Goals as goal

pub returns : goal.returns
returns g c =
    let then = g.met.S.LineSink.then in
    rw (← c.text_line.ensures, ← c.text_line-2.ensures) (then _ _ _ _ _ c.line.ensures (then _ _ _ _ _ c.put_counts.ensures c.line-2.ensures))
