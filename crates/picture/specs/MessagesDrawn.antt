-- How the arrows of messages are drawn between the lanes.
use Rattle.std.specs.Prelude.{ℕ, ◌+◌, ◌-◌, ◌≤◌, ◌==◌, nat_lt, if◌then◌else◌, List, [], ◌∷◌, ◌++◌, codes}
use Rattle.std.specs.Fmt.{decimal}
use Rattle.std.specs.List.{flat_map}
use Rattle.acas_base.specs.Encounter.{Parts}
use Rattle.acas_base.specs.declared.advisory.Vrc.{Vrc}
use Rattle.acas_base.specs.declared.advisory.Vrc.TheVariants.{Nil, NotAbove, NotBelow}
use Rattle.acas_base.specs.declared.entry.Entry.{Entry}
use Rattle.acas_text.specs.Hex.{hex}
use Rattle.air_journal.specs.Airs.{address_of}
use Rattle.page_marks.specs.Paints.{blue, filled, line_paint, note, vermilion}
use Rattle.page_marks.specs.Places.{point_at}
use Rattle.picture.specs.Layout.{lane_of}
use Rattle.picture.specs.Messages.{arrows}
use Rattle.picture.specs.declared.layout.Lane.{Lane}
use Rattle.picture.specs.declared.messages_drawn.Shaft.{Shaft}
use Rattle.picture.specs.declared.messages_read.Arrow.{Arrow}
use Rattle.plot_axes.specs.Time.{axis_begin, middle_of}
use Rattle.svg_text.specs.Marks.{Mark, figure, traced}
use Rattle.svg_text.specs.declared.shapes.Color.{Color}
use Rattle.svg_text.specs.declared.shapes.Outline.TheVariants as outlines
use Rattle.svg_text.specs.declared.shapes.Point.{Point}
use Rattle.svg_text.specs.declared.shapes.Shape.TheVariants as shapes

-- ---- what an arrow says

-- The colour is that of the sense that the complement leaves open; grey where there is none any more.
abbrev pub color_of : Vrc → Color
color_of Nil = note
color_of NotBelow = blue
color_of NotAbove = vermilion

unfoldable pub message_text : ℕ → ℕ → ℕ → List ℕ
message_text sender receiver number = codes "message " ++ decimal number ++ codes " of " ++ hex 6 sender ++ codes " to " ++ hex 6 receiver

-- The message, the cycles of its send and its take, and their positions.
unfoldable pub arrow_title : ℕ → ℕ → Arrow → List ℕ
arrow_title sender receiver arrow =
    message_text sender receiver arrow.taking.number ++ codes ", cycles " ++ decimal arrow.sent_after ++ codes " and " ++ decimal arrow.taking.taken_after ++ codes ", positions " ++ decimal arrow.taking.send ++ codes " and " ++ decimal arrow.taking.take

-- ---- where an arrow stands

-- What happens after so many commits of an aircraft stands in the middle of the last cycle that it committed.
unfoldable pub event_x : ℕ → ℕ → ℕ
event_x cycles commits = if commits == 0 then axis_begin else middle_of cycles commits

-- From the end of the bars of the upper lane to the top of those of the lower lane, a little to the left.
abbrev pub down_shaft : ℕ → ℕ → Lane → Lane → Shaft
down_shaft from to upper lower =
    record { tail_x = from - 70; tail_y = upper.base; tip_x = to - 70; neck_y = (lower.base - lower.tall) - 180; tip_y = lower.base - lower.tall; room = upper.room }

-- From the top of the bars of the lower lane to the end of those of the upper lane, a little to the right.
abbrev pub up_shaft : ℕ → ℕ → Lane → Lane → Shaft
up_shaft from to lower upper =
    record { tail_x = from + 70; tail_y = lower.base - lower.tall; tip_x = to + 70; neck_y = upper.base + 180; tip_y = upper.base; room = lower.room }

unfoldable pub shaft_of : ℕ → ℕ → Lane → Lane → Shaft
shaft_of from to sender receiver = if nat_lt sender.base receiver.base then down_shaft from to sender receiver else up_shaft from to sender receiver

-- A shaft stands near the lanes.
pub record IsShaft (shaft : Shaft) : Type 0 where
  pub tail : shaft.tail_x ≤ 17870
  pub tip : shaft.tip_x ≤ 17870
  pub left : 1930 ≤ shaft.tip_x
  pub begins : shaft.tail_y ≤ 39500
  pub neck : shaft.neck_y ≤ 39500
  pub ends : shaft.tip_y ≤ 39500
  pub room : shaft.room ≤ 880

-- ---- its marks

abbrev pub head_points : Shaft → List Point
head_points shaft = point_at (shaft.tip_x - 90) shaft.neck_y ∷ point_at (shaft.tip_x + 90) shaft.neck_y ∷ point_at shaft.tip_x shaft.tip_y ∷ []

abbrev pub shaft_marks : Shaft → Color → List ℕ → List Mark
shaft_marks shaft color title =
    figure (shapes.Segment (point_at shaft.tail_x shaft.tail_y) (point_at shaft.tip_x shaft.neck_y)) (line_paint color 40) title
    ∷ traced outlines.Closed (head_points shaft) (filled color color 30) title ∷ []

abbrev pub arrow_shaft : Parts → Arrow → Shaft
arrow_shaft e arrow =
    shaft_of (event_x e.cycles arrow.sent_after) (event_x e.cycles arrow.taking.taken_after) (lane_of e.crafts arrow.taking.sender) (lane_of e.crafts arrow.taking.receiver)

unfoldable pub arrow_marks : Parts → Arrow → List Mark
arrow_marks e arrow = shaft_marks (arrow_shaft e arrow) (color_of arrow.after) (arrow_title (address_of e arrow.taking.sender) (address_of e arrow.taking.receiver) arrow)

abbrev pub arrows_marks : Parts → List Entry → List Mark
arrows_marks e journal = flat_map (arrow_marks e) (arrows e journal)
