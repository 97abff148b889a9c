-- What the crews heard, as a list on the page.
use Rattle.std.specs.Prelude.{ℕ, ◌+◌, ◌-◌, ◌*◌, ◌==◌, if◌then◌else◌, nat_le, nat_lt, List, [], ◌∷◌, ◌++◌, codes, length, take}
use Rattle.std.specs.Fmt.{decimal}
use Rattle.acas_base.specs.Encounter.{Parts}
use Rattle.acas_base.specs.declared.entry.Entry.{Entry}
use Rattle.acas_text.specs.Hex.{hex}
use Rattle.advisory_report.specs.Composite.{word_of}
use Rattle.advisory_report.specs.Phrases.{is_clear, phrase_text}
use Rattle.advisory_report.specs.declared.composite.Composite.{Composite}
use Rattle.air_journal.specs.Airs.{address_of}
use Rattle.labels.specs.Labels.{LabelWords, name_of}
use Rattle.page_marks.specs.Paints.{box_marks, letters}
use Rattle.page_marks.specs.Places.{area_at, point_at}
use Rattle.picture.specs.Bars.{advised}
use Rattle.picture.specs.Gathered.{call_lines}
use Rattle.picture.specs.declared.call.Call.{Call}
use Rattle.picture.specs.declared.gathered.CallLine.{CallLine}
use Rattle.plot_axes.specs.Time.{label_of}
use Rattle.svg_text.specs.Marks.{Mark, worded}
use Rattle.svg_text.specs.declared.shapes.Anchor.TheVariants as anchors
use Rattle.svg_text.specs.declared.shapes.Weight.TheVariants as weights

-- ---- words

-- A phrase in quotes.
unfoldable pub quoted : List ℕ → List ℕ
quoted phrase = codes "\"" ++ phrase ++ codes "\""

unfoldable pub call_title : ℕ → ℕ → Composite → List ℕ
call_title address cycle shown = hex 6 address ++ codes ", cycle " ++ decimal cycle ++ codes ", " ++ word_of shown

unfoldable pub more_text : ℕ → List ℕ
more_text count = codes "and " ++ decimal count ++ codes " more"

-- That a line stands for more calls than its own, where it does.
abbrev pub shared_text : ℕ → List ℕ
shared_text calls = if nat_le calls 1 then [] else codes " " ++ more_text (calls - 1)

unfoldable pub said_text : List ℕ → ℕ → List ℕ
said_text phrase calls = quoted phrase ++ shared_text calls

-- ---- where the lines stand

abbrev pub most_lines : ℕ
most_lines = 22

-- The line with a number, from 0.
abbrev pub line_y : ℕ → ℕ → ℕ
line_y top number = top + 750 + 260 * number

-- ---- marks

-- A box that tells the sense of what is shown; none where nothing is.
unfoldable pub sense_marks : ℕ → Composite → List ℕ → List Mark
sense_marks y shown title = if is_clear shown then [] else box_marks (advised shown) (area_at 8800 (y - 170) 160 190) title

-- The cycle or its time of day, the aircraft and the phrase.
abbrev pub words_marks : ℕ → List ℕ → List ℕ → List ℕ → List Mark
words_marks y label name phrase =
    worded (letters (point_at 10150 y) 240 anchors.End weights.Regular) label []
    ∷ worded (letters (point_at 10300 y) 240 anchors.Start weights.Bold) name []
    ∷ worded (letters (point_at 11700 y) 240 anchors.Start weights.Regular) phrase [] ∷ []

-- The line of a call that stands for so many.
abbrev pub line_with : ℕ → ℕ → List ℕ → List ℕ → Call → ℕ → List Mark
line_with y address label name call calls =
    sense_marks y call.shown (call_title address call.cycle call.shown)
    ++ words_marks y label name (said_text (phrase_text call.heard) calls)

unfoldable pub line_marks : ℕ → Parts → LabelWords → ℕ → CallLine → List Mark
line_marks top e labels number it =
    line_with (line_y top number) (address_of e it.call.own) (label_of labels.start it.call.cycle) (name_of labels (address_of e it.call.own)) it.call it.calls

-- Those of lines, the first of which has this number.
abbrev pub lines : ℕ → Parts → LabelWords → ℕ → List CallLine → List Mark
lines top e labels number [] = []
lines top e labels number (it ∷ rest) = line_marks top e labels number it ++ lines top e labels (number + 1) rest

-- The same, where only those with a number below 22 are there.
unfoldable pub call_marks : ℕ → Parts → LabelWords → ℕ → CallLine → List Mark
call_marks top e labels number it = if nat_lt number most_lines then line_marks top e labels number it else []

abbrev pub listed : ℕ → Parts → LabelWords → ℕ → List CallLine → List Mark
listed top e labels number [] = []
listed top e labels number (it ∷ rest) = call_marks top e labels number it ++ listed top e labels (number + 1) rest

abbrev pub words_at : ℕ → List ℕ → List Mark
words_at y words = worded (letters (point_at 10300 y) 240 anchors.Start weights.Regular) words [] ∷ []

-- What stands below the lines: how many more there are. Where there is no call, it says so.
unfoldable pub rest_marks : ℕ → ℕ → List Mark
rest_marks top count =
    if count == 0 then words_at (line_y top 0) (codes "nothing")
    else (if nat_le count most_lines then [] else words_at (line_y top most_lines) (more_text (count - most_lines)))

abbrev pub heading_marks : ℕ → List Mark
heading_marks top = worded (letters (point_at 8800 (top + 350)) 260 anchors.Start weights.Bold) (codes "what the crews heard") [] ∷ []

-- The first 22 lines.
unfoldable pub heard_marks : ℕ → Parts → List Entry → LabelWords → List Mark
heard_marks top e journal labels =
    heading_marks top ++ (lines top e labels 0 (take most_lines (call_lines e journal)) ++ rest_marks top (length (call_lines e journal)))
