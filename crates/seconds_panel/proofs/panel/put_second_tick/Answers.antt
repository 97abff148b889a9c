use Rattle.seconds_panel.specs.Panel.{second_tick}
use Rattle.seconds_panel.proofs.panel.put_second_tick.Goals as goal

pub returns : goal.returns
unfolding second_tick
returns g c =
    let y = rw c.second_y.ensures.value at c.put_value_tick.ensures in
    rw c.tick_text.ensures.text at y
