use Rattle.std.proofs.Common.{subst}
use Rattle.acas_top.specs.Varying.{Found, varied_lines}
use Rattle.acas_top.proofs.varied.VariedText.put.Goals as goal

pub returns : goal.returns
returns g c =
    let then = g.met.S.LineSink.then in
    subst (λ (found : Found). g.S.LineSink.took c.args.sink.now c.put_changes.new.sink (varied_lines found.crafts found.outcome found.changes found.list)) c.self.view_is
    (rw (c.count_line.ensures, c.count.ensures.value, c.whole_line.ensures, c.crafts.ensures, c.changes.ensures.value, c.deref.ensures.value) at (then _ _ _ _ _ c.line.ensures (then _ _ _ _ _ c.line-2.ensures c.put_changes.ensures)))
