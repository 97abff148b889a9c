use Rattle.plan_panel.specs.Marks.{plan_marks}
use Rattle.plan_panel.proofs.panel.put_plan.Goals as goal

pub returns : goal.returns
unfolding plan_marks
returns g c =
    let bar = rw c.view_of.ensures.value at c.put_bar.ensures in
    g.met.D.Drawing.then _ _ _ _ _ c.put_frame.ensures (g.met.D.Drawing.then _ _ _ _ _ bar (g.met.D.Drawing.then _ _ _ _ _ c.put_flights.ensures c.put_approach.ensures))
