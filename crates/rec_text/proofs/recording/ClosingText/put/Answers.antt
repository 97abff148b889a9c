use Rattle.rec_text.proofs.recording.ClosingText.put.Goals as goal

pub returns : goal.returns
returns g c =
    let then = g.met.S.LineSink.then in
    rw (← c.report_count.ensures, ← c.count_line.ensures, ← c.fixed_line.ensures) (then _ _ _ _ _ c.line.ensures (then _ _ _ _ _ c.put_report.ensures c.line-2.ensures))
