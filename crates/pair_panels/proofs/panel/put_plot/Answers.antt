use Rattle.std.proofs.Common.{ℕ, List, ap, ◌∙◌}
use Rattle.page_marks.specs.Words.{when_text}
use Rattle.plot_axes.specs.Time.{begin_of}
use Rattle.pair_panels.specs.Panel.{closest_text, value_y}
use Rattle.pair_panels.proofs.panel.put_plot.Goals as goal

pub returns : goal.returns
returns g c =
    let top = c.args.top in
    let pair = c.args.pair in
    let ticks = c.args.ticks in
    let value = c.distance_in-value.ensures.value in
    let labels = c.args.labels.now in
    let clock = ap (λ s. when_text s pair.cycle) c.requires.start in
    let when = c.when_text.ensures.text ∙ clock in
    let closest = c.closest_text-closest.ensures.text ∙ ap (λ (w : List ℕ). closest_text c.args.distance w c.distance_in-value.result) when ∙ ap (closest_text c.args.distance (when_text labels.start pair.cycle)) value in
    let heading = c.heading_of-heading.ensures.text in
    let x = c.begin-x.ensures.value ∙ ap (λ (n : ℕ). begin_of n pair.cycle) c.requires.time in
    let y = c.value_y.ensures.value ∙ ap (value_y top ticks) value in
    let run = rw c.requires.time at c.put_time_ticks.ensures in
    let timed = rw c.requires.start at run in
    let cycles = rw c.tick_place.ensures at timed in
    let headed = rw heading at c.put_frame.ensures in
    let frame = rw closest at headed in
    let aim = rw c.aim_of.ensures.value at c.put_aim.ensures in
    let across = rw x at c.put_closest.ensures in
    let down = rw y at across in
    let nearest = rw closest at down in
    let line = rw heading at c.put_curve.ensures in
    g.met.D.Drawing.then _ _ _ _ _ c.put_value_ticks.ensures (g.met.D.Drawing.then _ _ _ _ _ cycles (g.met.D.Drawing.then _ _ _ _ _ frame (g.met.D.Drawing.then _ _ _ _ _ aim (g.met.D.Drawing.then _ _ _ _ _ nearest line))))
