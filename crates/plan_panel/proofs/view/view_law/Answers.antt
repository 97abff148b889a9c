use Rattle.plan_panel.proofs.Showing.{holds-all}
use Rattle.plan_panel.proofs.view.view_law.Goals as goal

pub returns : goal.returns
returns c = holds-all c.args.encounter.now
