-- The lanes: for each aircraft that advises, what it is called, a line, and a bar for each of its rows of cycles.
use Rattle.std.specs.Prelude.{ℕ, ◌+◌, ◌-◌, ◌*◌, ◌/◌, ◌≤◌, Bool, if◌then◌else◌, nat_le, List, [], ◌∷◌, ◌++◌, codes, length, Option, Some, None, slice_get}
use Rattle.std.specs.Fmt.{decimal}
use Rattle.std.specs.List.{flat_map, range_with_len}
use Rattle.std.specs.Option.{option_map_or}
use Rattle.acas_base.specs.Encounter.{Parts, is_active_kind}
use Rattle.acas_base.specs.declared.advisory.Strength.{Strength}
use Rattle.acas_base.specs.declared.craft.CraftSpec.{CraftSpec}
use Rattle.acas_base.specs.declared.entry.Entry.{Entry}
use Rattle.acas_text.specs.Hex.{hex}
use Rattle.advisory_report.specs.Composite.{word_of}
use Rattle.advisory_report.specs.Phrases.{has_advice}
use Rattle.advisory_report.specs.declared.composite.Composite.{Composite}
use Rattle.equal_rows.specs.declared.row.Row.{Row}
use Rattle.labels.specs.Labels.{LabelWords, name_of}
use Rattle.picture.specs.Layout.{lane_of}
use Rattle.page_marks.specs.Places.{area_at, point_at}
use Rattle.page_marks.specs.Paints.{box_marks, grid, halo, letters, line_paint}
use Rattle.picture.specs.Shown.{shown_in, shown_rows}
use Rattle.picture.specs.declared.bar.Bar.{Bar}
use Rattle.picture.specs.declared.layout.Lane.{Lane}
use Rattle.page_marks.specs.declared.paints.Advised.{Advised}
use Rattle.page_marks.specs.declared.paints.Advised.TheVariants as kinds
use Rattle.plot_axes.specs.Time.{begin_of}
use Rattle.svg_text.specs.Marks.{Mark, figure, worded}
use Rattle.svg_text.specs.declared.shapes.Anchor.TheVariants as anchors
use Rattle.svg_text.specs.declared.shapes.Area.{Area}
use Rattle.svg_text.specs.declared.shapes.Shape.TheVariants as shapes
use Rattle.svg_text.specs.declared.shapes.Weight.TheVariants as weights

-- ---- what a bar says

abbrev pub advised_by : Option Strength → Option Strength → Advised
advised_by None None = kinds.Traffic
advised_by (Some up) None = kinds.Up
advised_by None (Some down) = kinds.Down
advised_by (Some up) (Some down) = kinds.Both

-- In which sense there is advice; traffic where there is none.
abbrev pub advised : Composite → Advised
advised composite = advised_by composite.up composite.down

-- Whether advice is corrective. Traffic is neither.
abbrev pub mark_text : Composite → List ℕ
mark_text composite = if has_advice composite then (if composite.corrective then codes ", corrective" else codes ", preventive") else []

unfoldable pub bar_title : ℕ → Row → Composite → List ℕ
bar_title address row composite =
    codes "cycles " ++ decimal row.first ++ codes " to " ++ decimal row.last ++ codes ", " ++ hex 6 address ++ codes ", " ++ word_of composite ++ mark_text composite

-- ---- where a bar stands

-- Bars of corrective advice are tall. Other bars are low: seven tenths of that.
abbrev pub bar_height : ℕ → Composite → ℕ
bar_height tall composite = if composite.corrective then tall else tall * 7 / 10

-- It reaches from the beginning of its first cycle to the end of its last one, and stands on the base of its lane.
abbrev pub bar_of : ℕ → Lane → Row → Composite → Bar
bar_of cycles lane row composite = record {
  left = begin_of cycles row.first;
  width = begin_of cycles (row.last + 1) - begin_of cycles row.first;
  base = lane.base;
  height = bar_height lane.tall composite;
}

-- A bar stands in the box of the lanes.
pub record IsPlaced (bar : Bar) : Type 0 where
  pub left : 2000 ≤ bar.left
  pub right : bar.left + bar.width ≤ 17800
  pub top : 5500 ≤ bar.base
  pub bottom : bar.base ≤ 25200
  pub height : bar.height ≤ 400

abbrev pub bar_area : Bar → Area
bar_area bar = area_at bar.left (bar.base - bar.height) bar.width bar.height

-- ---- its marks

-- A letter of the word takes this much room.
abbrev pub letter_width : ℕ
letter_width = 150

abbrev pub word_size : ℕ
word_size = 220

-- The word is written where the bar is wide enough for its letters and a margin.
abbrev pub has_room : Bar → ℕ → Bool
has_room bar letters = nat_le (letter_width * letters + 80) bar.width

abbrev pub word_x : Bar → ℕ
word_x bar = bar.left + bar.width / 2

abbrev pub word_y : Bar → ℕ
word_y bar = (bar.base - bar.height / 2) + 80

abbrev pub word_pair : Bar → List ℕ → List ℕ → List Mark
word_pair bar word title =
    worded (halo (point_at (word_x bar) (word_y bar)) word_size anchors.Middle weights.Regular) word title
    ∷ worded (letters (point_at (word_x bar) (word_y bar)) word_size anchors.Middle weights.Regular) word title ∷ []

unfoldable pub word_marks : Bar → List ℕ → List ℕ → List Mark
word_marks bar word title = if has_room bar (length word) then word_pair bar word title else []

unfoldable pub titled_bar : Bar → Composite → List ℕ → List Mark
titled_bar bar composite title = box_marks (advised composite) (bar_area bar) title ++ word_marks bar (word_of composite) title

unfoldable pub bar_marks : ℕ → Lane → ℕ → Composite → Row → List Mark
bar_marks cycles lane address composite row = titled_bar (bar_of cycles lane row composite) composite (bar_title address row composite)

-- ---- lanes

abbrev pub row_marks : Parts → List Entry → ℕ → Lane → ℕ → Row → List Mark
row_marks e journal own lane address row = bar_marks e.cycles lane address (shown_in journal own row.first) row

unfoldable pub bars : Parts → List Entry → ℕ → Lane → ℕ → List Mark
bars e journal own lane address = flat_map (row_marks e journal own lane address) (shown_rows journal e.cycles own)

-- The line on which the bars of a lane stand, and what the aircraft is called.
abbrev pub lane_head : Lane → List ℕ → List Mark
lane_head lane name =
    figure (shapes.Segment (point_at 2000 lane.base) (point_at 17800 lane.base)) (line_paint grid 15) []
    ∷ worded (letters (point_at 1880 lane.base) 300 anchors.End weights.Regular) name [] ∷ []

abbrev pub lane_marks : LabelWords → Parts → List Entry → ℕ → Lane → ℕ → List Mark
lane_marks it e journal own lane address = lane_head lane (name_of it address) ++ bars e journal own lane address

abbrev pub marks_of_craft : LabelWords → Parts → List Entry → ℕ → CraftSpec → List Mark
marks_of_craft it e journal own craft = if is_active_kind craft.kind then lane_marks it e journal own (lane_of e.crafts own) craft.address else []

unfoldable pub craft_marks : LabelWords → Parts → List Entry → ℕ → List Mark
craft_marks it e journal own = option_map_or (marks_of_craft it e journal own) (slice_get e.crafts own) []

abbrev pub lanes_marks : LabelWords → Parts → List Entry → List Mark
lanes_marks it e journal = flat_map (craft_marks it e journal) (range_with_len 0 (length e.crafts))
