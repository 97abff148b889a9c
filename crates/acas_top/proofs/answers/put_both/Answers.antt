use Rattle.acas_top.proofs.answers.put_both.Goals as goal

pub returns : goal.returns
returns g c = g.met.S.LineSink.then _ _ _ _ _ c.line.ensures c.line-2.ensures
