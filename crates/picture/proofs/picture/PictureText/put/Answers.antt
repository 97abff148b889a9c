use Rattle.std.proofs.Common.{ℕ, ◌+◌, ap, ap₂, ◌∙◌}
use Rattle.acas_base.specs.Encounter.{Parts}
use Rattle.air_journal.specs.States.{State}
use Rattle.picture.specs.Head.{title_text}
use Rattle.picture.specs.Layout.{active_among, frame_of, panels_top}
use Rattle.picture.specs.MarkedDrawn.{list_height}
use Rattle.pair_panels.specs.Nearest.{nearest_pair}
use Rattle.picture.specs.Panels.{panels_height}
use Rattle.picture.specs.Picture.{picture_lines}
use Rattle.picture.proofs.picture.PictureText.put.Goals as goal

pub returns : goal.returns
unfolding picture_lines
returns g c =
    let is = c.state-state.ensures in
    let enc = c.enc-encounter.ensures ∙ ap (λ (s : State). s.encounter) is in
    let headed = rw is at c.put_head_section.ensures in
    let bands = rw is at c.put_bands_section.ensures in
    let bars = rw is at c.put_lanes_section.ensures in
    let lanes = c.active_among-lanes.ensures.value ∙ ap active_among (c.crafts.ensures.value ∙ ap (λ (p : Parts). p.crafts) enc) in
    let pair = c.nearest_pair-pair.ensures.value ∙ ap nearest_pair enc in
    let top_words = rw pair at headed in
    let profile = c.profile.ensures ∙ ap (λ (p : Parts). p.profile) enc in
    let panels = c.panels_height-panels.ensures.value ∙ ap₂ panels_height profile pair in
    let cycles = c.axis_of-axis.ensures.cycles ∙ ap (λ (p : Parts). p.cycles) enc in
    let start = c.axis_of-axis.ensures.start in
    let list = c.list_height.ensures.value ∙ ap (list_height c.args.self.now.labels.now) cycles in
    let frame = c.frame_of-frame.ensures ∙ ap₂ frame_of lanes (ap₂ (λ (k m : ℕ). k + 6600 + m) panels list) in
    let title = c.title_text-title.ensures.text ∙ ap title_text enc in
    let begun = rw frame at c.begin_drawing.ensures.head in
    let titled = rw title at begun in
    let head = rw c.description.ensures.text at titled in
    let run = rw cycles at c.put_time_section.ensures in
    let clock = rw start at run in
    let time = rw lanes at clock in
    let marked = rw cycles at c.put_lines_section.ensures in
    let lines = rw lanes at marked in
    let altitude = rw is at c.put_altitude_section.ensures in
    let top = c.panels_top-top.ensures.value ∙ ap panels_top lanes in
    let at_top = rw top at c.put_panels_section.ensures in
    let of_pair = rw pair at at_top in
    let drawn = rw enc at of_pair in
    let plan_low = rw top at c.put_plan_section.ensures in
    let plan_at = rw panels at plan_low in
    let plan_pair = rw pair at plan_at in
    let plan = rw enc at plan_pair in
    let heard_low = rw top at c.put_heard_section.ensures in
    let heard_at = rw panels at heard_low in
    let heard = rw is at heard_at in
    let below = rw top at c.put_legend_section.ensures in
    let legend = rw panels at below in
    let under = rw top at c.put_list_section.ensures in
    let placed = rw panels at under in
    let rows = rw cycles at placed in
    let end = g.met.S.LineSink.then _ _ _ _ _ legend (g.met.S.LineSink.then _ _ _ _ _ rows (g.met.S.LineSink.nothing _)) in
    let last = g.met.S.LineSink.then _ _ _ _ _ drawn (g.met.S.LineSink.then _ _ _ _ _ plan (g.met.S.LineSink.then _ _ _ _ _ heard end)) in
    let over = g.met.S.LineSink.then _ _ _ _ _ altitude (g.met.S.LineSink.then _ _ _ _ _ c.put_messages_section.ensures (g.met.S.LineSink.then _ _ _ _ _ bars last)) in
    let marks = g.met.S.LineSink.then _ _ _ _ _ top_words (g.met.S.LineSink.then _ _ _ _ _ time (g.met.S.LineSink.then _ _ _ _ _ lines (g.met.S.LineSink.then _ _ _ _ _ bands over))) in
    g.met.S.LineSink.then _ _ _ _ _ head (g.met.S.LineSink.then _ _ _ _ _ marks c.end_drawing.ensures)
