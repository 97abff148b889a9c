use Rattle.acas_top.specs.Pages.{help_lines}
use Rattle.acas_top.proofs.pages.put_help.Goals as goal

-- Each part was put behind those before it.
pub returns : goal.returns
unfolding help_lines
returns g c =
    let then = g.met.S.LineSink.then in
    then _ _ _ _ _ c.put_lines.ensures (then _ _ _ _ _ c.put_lines-2.ensures (then _ _ _ _ _ c.put_lines-3.ensures (then _ _ _ _ _ c.put_lines-4.ensures (then _ _ _ _ _ c.put_lines-5.ensures c.put_lines-6.ensures))))
