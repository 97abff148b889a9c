use Rattle.pair_panels.specs.Panel.{distance_marks}
use Rattle.pair_panels.proofs.panel.put_distance.Goals as goal

pub returns : goal.returns
unfolding distance_marks
returns g c = rw c.ticks_of-ticks.ensures.value at c.put_plot.ensures
