use Rattle.seconds_panel.specs.Panel.{legend_at}
use Rattle.seconds_panel.proofs.panel.put_legend_at.Goals as goal

pub returns : goal.returns
unfolding legend_at
returns g c =
    let at = rw c.point_at.ensures at c.put_words.ensures in
    let one = rw c.name_text-name.ensures.text at at in
    let from = rw c.point_at-2.ensures at c.figure.ensures in
    let to = rw c.point_at-3.ensures at from in
    let paint = rw c.paint.ensures at to in
    let two = rw c.name_text-name.ensures.text at paint in
    g.met.D.Drawing.then _ _ _ _ _ one two
