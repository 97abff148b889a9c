use Rattle.std.proofs.Common.{subst}
use Rattle.air_journal.specs.States.{State}
use Rattle.summary.specs.Summary.{summary_lines}
use Rattle.acas_top.proofs.telling.put_summary.Goals as goal

pub returns : goal.returns
returns g c =
    let page = subst (λ (s : State). g.S.LineSink.took c.args.sink.now c.put.new.sink (summary_lines s.encounter s.journal)) c.state.ensures c.put.ensures in
    g.met.S.LineSink.then _ _ _ _ _ page c.put-2.ensures
