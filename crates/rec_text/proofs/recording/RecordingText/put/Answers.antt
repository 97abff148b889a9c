use Rattle.rec_text.proofs.recording.RecordingText.put.Goals as goal

pub returns : goal.returns
returns g c =
    let then = g.met.S.LineSink.then in
    rw (← c.fixed_line.ensures, ← c.count.ensures.value, ← c.count_line.ensures)
    (then _ _ _ _ _ c.line.ensures (then _ _ _ _ _ (rw c.enc.ensures at c.put.ensures) (then _ _ _ _ _ c.line-2.ensures (then _ _ _ _ _ c.put_entries.ensures c.put-2.ensures))))
