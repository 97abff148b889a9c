-- What the boxes, the signs, the arrows and the bands mean.
use Rattle.std.specs.Prelude.{ℕ, ◌+◌, List, [], ◌∷◌, ◌++◌, codes}
use Rattle.picture.specs.MishapsDrawn.{sign_marks}
use Rattle.picture.specs.declared.messages_drawn.Shaft.{Shaft}
use Rattle.picture.specs.declared.mishaps.Sign.{Sign}
use Rattle.picture.specs.declared.mishaps.Sign.TheVariants.{Cross, HollowHead}
use Rattle.page_marks.specs.Places.{area_at, point_at}
use Rattle.page_marks.specs.Paints.{box_marks, letters}
use Rattle.page_marks.specs.declared.paints.Advised.{Advised}
use Rattle.page_marks.specs.declared.paints.Advised.TheVariants as kinds
use Rattle.svg_text.specs.Marks.{Mark, worded}
use Rattle.svg_text.specs.declared.shapes.Anchor.TheVariants as anchors
use Rattle.svg_text.specs.declared.shapes.Weight.TheVariants as weights

-- A box and what it means. The legend begins at `top`.
unfoldable pub item_marks : ℕ → ℕ → Advised → List ℕ → List Mark
item_marks top x advised words =
    box_marks advised (area_at x (top + 200) 700 280) []
    ++ worded (letters (point_at (x + 850) (top + 430)) 260 anchors.Start weights.Regular) words [] ∷ []

-- A sign at a place, and what it means.
abbrev pub sample_shaft : ℕ → ℕ → Shaft
sample_shaft x y = record { tail_x = x; tail_y = y; tip_x = x; neck_y = y + 220; tip_y = y + 400; room = 400 }

unfoldable pub sample_marks : ℕ → ℕ → ℕ → Sign → List ℕ → List Mark
sample_marks top x y sign words = sign_marks sign (sample_shaft x y) [] ++ worded (letters (point_at (x + 200) (top + 430)) 260 anchors.Start weights.Regular) words [] ∷ []

abbrev pub height_words : List ℕ
height_words = codes "A tall bar: corrective advice. A low bar: preventive advice, or traffic alone."

abbrev pub arrow_words : List ℕ
arrow_words = codes "An arrow: a message that changes what is in force, in the colour of the sense that it leaves."

abbrev pub band_words : List ℕ
band_words = codes "A band above a line: up. Below it: down. Half as high: preventive advice. A stripe: traffic."

abbrev pub modelled_words : List ℕ
modelled_words = codes "A dotted green line: the flight with the modelled response, where it isn't the planned one."

-- A line of words so far down.
abbrev pub remark : ℕ → List ℕ → Mark
remark y words = worded (letters (point_at 2000 y) 260 anchors.Start weights.Regular) words []

abbrev pub remarks_marks : ℕ → List Mark
remarks_marks top = remark (top + 900) height_words ∷ remark (top + 1250) arrow_words ∷ remark (top + 1600) band_words ∷ remark (top + 1950) modelled_words ∷ []

abbrev pub legend_marks : ℕ → List Mark
legend_marks top =
    item_marks top 2000 kinds.Traffic (codes "traffic")
    ++ (item_marks top 5200 kinds.Up (codes "up")
    ++ (item_marks top 8400 kinds.Down (codes "down")
    ++ (item_marks top 11600 kinds.Both (codes "up and down")
    ++ (sample_marks top 14900 (top + 210) Cross (codes "lost")
    ++ (sample_marks top 16800 (top + 140) HollowHead (codes "spoilt")
    ++ remarks_marks top)))))
