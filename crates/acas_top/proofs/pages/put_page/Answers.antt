use Rattle.std.proofs.Common.{subst, sym}
use Rattle.acas_top.specs.Pages.{page_lines}
use Rattle.acas_top.specs.declared.words.Page.{Page}
use Rattle.acas_top.proofs.pages.put_page.Goals as goal

pub returns-in-Help : goal.returns-in-Help
unfolding page_lines
returns-in-Help g c = subst (λ (page : Page). g.S.LineSink.took c.args.sink.now c.put_help.new.sink (page_lines page)) (sym c.in-Help.is) c.put_help.ensures

pub returns-in-Version : goal.returns-in-Version
unfolding page_lines
returns-in-Version g c = subst (λ (page : Page). g.S.LineSink.took c.args.sink.now c.put_lines.new.sink (page_lines page)) (sym c.in-Version.is) c.put_lines.ensures
