-- How messages that were lost or spoilt are drawn between the lanes.
use Rattle.std.specs.Prelude.{ℕ, ◌+◌, ◌-◌, ◌/◌, ◌==◌, nat_lt, if◌then◌else◌, List, [], ◌∷◌, ◌++◌, codes}
use Rattle.std.specs.Fmt.{decimal}
use Rattle.std.specs.List.{flat_map}
use Rattle.acas_base.specs.Encounter.{Parts}
use Rattle.acas_base.specs.declared.entry.Entry.{Entry}
use Rattle.acas_text.specs.Hex.{hex}
use Rattle.air_journal.specs.Airs.{address_of}
use Rattle.deliveries.specs.declared.rows.Row.{Row}
use Rattle.page_marks.specs.Paints.{dashed_paint, halo, ink, letters, line_paint}
use Rattle.page_marks.specs.Places.{point_at}
use Rattle.picture.specs.Layout.{lane_of}
use Rattle.picture.specs.MessagesDrawn.{arrows_marks, event_x, head_points, shaft_of}
use Rattle.picture.specs.Mishaps.{sent_rows}
use Rattle.picture.specs.declared.messages_drawn.Shaft.{Shaft}
use Rattle.picture.specs.declared.mishaps.SentRow.{SentRow}
use Rattle.picture.specs.declared.mishaps.Sign.{Sign}
use Rattle.picture.specs.declared.mishaps.Sign.TheVariants.{Cross, HollowHead}
use Rattle.svg_text.specs.Marks.{Mark, figure, traced, worded}
use Rattle.svg_text.specs.declared.shapes.Anchor.TheVariants as anchors
use Rattle.svg_text.specs.declared.shapes.Dash.TheVariants as dashes
use Rattle.svg_text.specs.declared.shapes.Outline.TheVariants as outlines
use Rattle.svg_text.specs.declared.shapes.Point.{Point}
use Rattle.svg_text.specs.declared.shapes.Shape.TheVariants as shapes
use Rattle.svg_text.specs.declared.shapes.Weight.TheVariants as weights

-- ---- what is said of a row

unfoldable pub numbers_text : Row → List ℕ
numbers_text row = if row.first == row.last then codes "message " ++ decimal row.first else codes "messages " ++ decimal row.first ++ codes " to " ++ decimal row.last

abbrev pub fate_text : Sign → List ℕ
fate_text Cross = codes " lost"
fate_text HollowHead = codes " spoilt"

-- The numbers of the messages, the addresses, what befell them, and the cycle in which the first one was sent.
unfoldable pub row_title : ℕ → ℕ → Sign → SentRow → List ℕ
row_title sender receiver sign sent =
    numbers_text sent.row ++ codes " of " ++ hex 6 sender ++ codes " to " ++ hex 6 receiver ++ fate_text sign ++ codes ", cycle " ++ decimal sent.sent_after

-- ---- where a lost message ends

-- A third of the way from its sender to its receiver, and at most half of the way to the next lane. So no lane between
-- the two hides it.
abbrev pub lost_way : ℕ → ℕ → ℕ → ℕ
lost_way room from to = if nat_lt (room / 2) ((to - from) / 3) then room / 2 else (to - from) / 3

-- How far down: below the sender where the receiver stands below, else above it.
unfoldable pub lost_y : Shaft → ℕ
lost_y shaft =
    if nat_lt shaft.tail_y shaft.tip_y then shaft.tail_y + lost_way shaft.room shaft.tail_y shaft.tip_y
    else shaft.tail_y - lost_way shaft.room shaft.tip_y shaft.tail_y

-- ---- the marks

abbrev pub stroke : Point → Point → List ℕ → Mark
stroke from to title = figure (shapes.Segment from to) (line_paint ink 40) title

-- Two strokes that cross each other.
abbrev pub cross_at : ℕ → ℕ → List ℕ → List Mark
cross_at x y title = stroke (point_at (x - 70) (y - 70)) (point_at (x + 70) (y + 70)) title ∷ stroke (point_at (x - 70) (y + 70)) (point_at (x + 70) (y - 70)) title ∷ []

-- A line that ends in a cross.
abbrev pub cross_marks : Shaft → List ℕ → List Mark
cross_marks shaft title = stroke (point_at shaft.tail_x shaft.tail_y) (point_at shaft.tail_x (lost_y shaft)) title ∷ cross_at shaft.tail_x (lost_y shaft) title

-- A line of dashes, and a head that isn't filled.
abbrev pub hollow_marks : Shaft → List ℕ → List Mark
hollow_marks shaft title =
    figure (shapes.Segment (point_at shaft.tail_x shaft.tail_y) (point_at shaft.tip_x shaft.neck_y)) (dashed_paint ink 40 dashes.Short) title
    ∷ traced outlines.Closed (head_points shaft) (line_paint ink 30) title ∷ []

abbrev pub sign_marks : Sign → Shaft → List ℕ → List Mark
sign_marks Cross shaft title = cross_marks shaft title
sign_marks HollowHead shaft title = hollow_marks shaft title

-- To the left of a line that goes down, to the right of one that goes up.
abbrev pub count_x : Shaft → ℕ
count_x shaft = if nat_lt shaft.tail_y shaft.tip_y then shaft.tail_x - 280 else shaft.tail_x + 280

abbrev pub count_words : Shaft → List ℕ → List ℕ → List Mark
count_words shaft words title =
    worded (halo (point_at (count_x shaft) (lost_y shaft + 80)) 220 anchors.Middle weights.Regular) words title
    ∷ worded (letters (point_at (count_x shaft) (lost_y shaft + 80)) 220 anchors.Middle weights.Regular) words title ∷ []

-- How many messages there are, where it isn't one.
unfoldable pub count_marks : Shaft → Row → List ℕ → List Mark
count_marks shaft row title = if row.first == row.last then [] else count_words shaft (decimal ((row.last + 1) - row.first)) title

-- It stands in the cycle in which the first message was sent.
abbrev pub row_shaft : Parts → SentRow → Shaft
row_shaft e sent = shaft_of (event_x e.cycles sent.sent_after) (event_x e.cycles sent.sent_after) (lane_of e.crafts sent.sender) (lane_of e.crafts sent.receiver)

abbrev pub titled_row : Sign → SentRow → Shaft → List ℕ → List Mark
titled_row sign sent shaft title = sign_marks sign shaft title ++ count_marks shaft sent.row title

unfoldable pub drawn_row : Parts → Sign → SentRow → List Mark
drawn_row e sign sent = titled_row sign sent (row_shaft e sent) (row_title (address_of e sent.sender) (address_of e sent.receiver) sign sent)

abbrev pub mishaps_marks : Parts → List Entry → Sign → List Mark
mishaps_marks e journal sign = flat_map (drawn_row e sign) (sent_rows e journal sign)

-- All messages that are drawn: those that change what is in force, and over them those that were lost or spoilt.
abbrev pub messages_marks : Parts → List Entry → List Mark
messages_marks e journal = arrows_marks e journal ++ (mishaps_marks e journal Cross ++ mishaps_marks e journal HollowHead)
