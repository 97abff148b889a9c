-- The picture of a recording.
use Rattle.std.specs.Prelude.{ℕ, ◌+◌, List, [], ◌∷◌}
use Rattle.acas_base.specs.Encounter.{Parts}
use Rattle.acas_base.specs.declared.entry.Entry.{Entry}
use Rattle.acas_lines.specs.Lines.{joined}
use Rattle.labels.specs.Labels.{LabelWords}
use Rattle.picture.specs.Altitude.{altitude_marks}
use Rattle.picture.specs.Bands.{bands_marks}
use Rattle.picture.specs.Bars.{lanes_marks}
use Rattle.picture.specs.Head.{description, head_marks, title_text}
use Rattle.picture.specs.Heard.{heard_marks}
use Rattle.picture.specs.Layout.{active_among, frame_of, legend_height, panels_top}
use Rattle.picture.specs.Legend.{legend_marks}
use Rattle.picture.specs.MarkedDrawn.{lines_marks, list_height, list_marks}
use Rattle.picture.specs.MishapsDrawn.{messages_marks}
use Rattle.picture.specs.Panels.{approach_of, panel_marks, panels_height}
use Rattle.picture.specs.Time.{time_marks}
use Rattle.pair_panels.specs.Nearest.{nearest_pair}
use Rattle.plan_panel.specs.Marks.{plan_marks, panel_height as plan_height}
use Rattle.svg_text.specs.Documents.{Section, drawing_lines}
use Rattle.svg_text.specs.Marks.{Mark}
use Rattle.svg_text.specs.declared.document.Frame.{Frame}
use Rattle.svg_text.specs.declared.shapes.Clip.TheVariants as clips

-- How many lanes there are.
abbrev pub lanes_of : Parts → ℕ
lanes_of e = active_among e.crafts

-- Where the plan begins, with what the crews heard beside it; where the legend begins, and where the list of marks
-- begins.
abbrev pub plan_top : Parts → ℕ
plan_top e = panels_top (lanes_of e) + panels_height e.profile (nearest_pair e)

abbrev pub legend_top : Parts → ℕ
legend_top e = plan_top e + plan_height

abbrev pub list_top : Parts → ℕ
list_top e = legend_top e + legend_height

abbrev pub section : List Mark → Section
section marks = record { clip = clips.Whole; marks = marks }

-- The head, the axis of time, and over it the lines of marks, the bands of advice and the altitudes, the messages and
-- over them the lanes, the panels of the nearest pair, the plan, what the crews heard, the legend, and the list of
-- marks.
abbrev pub sections : LabelWords → Parts → List Entry → List Section
sections it e journal =
    section (head_marks it e journal (nearest_pair e)) ∷ section (time_marks e.cycles it.start (lanes_of e)) ∷ section (lines_marks it e.cycles (lanes_of e)) ∷ section (bands_marks e journal) ∷ section (altitude_marks it e journal)
    ∷ section (messages_marks e journal) ∷ section (lanes_marks it e journal) ∷ section (panel_marks (panels_top (lanes_of e)) it e (nearest_pair e))
    ∷ section (plan_marks (plan_top e) e it.start it (approach_of (nearest_pair e))) ∷ section (heard_marks (plan_top e) e journal it) ∷ section (legend_marks (legend_top e))
    ∷ section (list_marks (list_top e) it e.cycles) ∷ []

-- How much more of the page panels, the plan and a list of marks take.
abbrev pub below_of : LabelWords → Parts → ℕ
below_of it e = panels_height e.profile (nearest_pair e) + plan_height + list_height it e.cycles

abbrev pub page : LabelWords → Parts → Frame
page it e = frame_of (lanes_of e) (below_of it e)

unfoldable pub picture_lines : LabelWords → Parts → List Entry → List (List ℕ)
picture_lines it e journal = drawing_lines (page it e) (title_text e) description (sections it e journal)

abbrev pub picture_text : LabelWords → Parts → List Entry → List ℕ
picture_text it e journal = joined (picture_lines it e journal)
