use Rattle.pair_panels.specs.Panel.{value_tick}
use Rattle.pair_panels.proofs.panel.put_tick.Goals as goal

pub returns : goal.returns
unfolding value_tick
returns g c =
    let value = c.tick_value-value.ensures.value in
    let y = rw c.value_y.ensures.value at c.put_value_tick.ensures in
    let words = rw c.tick_text.ensures.text at y in
    rw value at words
