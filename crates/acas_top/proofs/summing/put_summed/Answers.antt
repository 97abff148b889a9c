use Rattle.acas_top.proofs.summing.put_summed.Goals as goal

pub returns : goal.returns
returns g c = rw (← c.count_line.ensures, ← c.serial_line.ensures) (g.met.S.LineSink.then _ _ _ _ _ c.line.ensures c.line-2.ensures)
