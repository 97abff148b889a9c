-- Where the names of aircraft stand in the plan. No name lies over another one.
use Rattle.std.specs.Prelude.{ℕ, zero, suc, ◌+◌, ◌-◌, ◌%◌, ◌==◌, Bool, false, not, ◌&&◌, ◌||◌, if◌then◌else◌, nat_le, nat_lt, List, [], ◌∷◌}
use Rattle.acas_base.specs.Encounter.{Parts}
use Rattle.page_marks.specs.Paints.{letters}
use Rattle.page_marks.specs.Places.{point_at}
use Rattle.plan_panel.specs.Places.{x_in, y_in}
use Rattle.svg_text.specs.Marks.{Mark, worded}
use Rattle.svg_text.specs.declared.shapes.Anchor.TheVariants as anchors
use Rattle.svg_text.specs.declared.shapes.Weight.TheVariants as weights

-- ---- beside a place

-- Names stand above places of aircraft and below them, in turn.
unfoldable pub name_y : ℕ → ℕ → ℕ
name_y y own = if own % 2 == 0 then y - 100 else y + 260

-- A name of eight letters is some 1,150 wide. It stands to the right of the place, or where that is too near to the
-- edge, to the left.
unfoldable pub name_marks : ℕ → ℕ → List ℕ → List Mark
name_marks x y name =
    if nat_le x 7100 then worded (letters (point_at (x + 120) y) 240 anchors.Start weights.Regular) name [] ∷ []
    else worded (letters (point_at (x - 120) y) 240 anchors.End weights.Regular) name [] ∷ []

-- Where it begins, and how far down it stands, beside the place of an aircraft in a cycle.
unfoldable pub name_left : ℕ → ℕ
name_left x = if nat_le x 7100 then x + 120 else x - 1270

abbrev pub left_in : Parts → ℕ → ℕ → ℕ
left_in e own cycle = name_left (x_in e own cycle)

abbrev pub down_in : ℕ → Parts → ℕ → ℕ → ℕ
down_in top e own cycle = name_y (y_in top e own cycle) own

-- ---- names over others

-- Two numbers are nearer than so much.
abbrev pub are_near : ℕ → ℕ → ℕ → Bool
are_near room one other = nat_lt one (other + room) && nat_lt other (one + room)

-- A name beside a place may lie over another one.
abbrev pub lies_over : ℕ → Parts → ℕ → ℕ → ℕ → ℕ → Bool
lies_over top e own cycle other moment = are_near 1200 (left_in e own cycle) (left_in e other moment) && are_near 260 (down_in top e own cycle) (down_in top e other moment)

-- Over that of another aircraft, at its end or at its start.
abbrev pub lies_over_either : ℕ → Parts → ℕ → ℕ → ℕ → Bool
lies_over_either top e own cycle other = lies_over top e own cycle other e.cycles || lies_over top e own cycle other 1

-- Over that of one of the first aircraft.
abbrev pub lies_over_some : ℕ → Parts → ℕ → ℕ → ℕ → Bool
lies_over_some top e own cycle zero = false
lies_over_some top e own cycle (suc n) = lies_over_some top e own cycle n || lies_over_either top e own cycle n

-- There is room beside a place: the name lies over none of an aircraft of lower index.
abbrev pub has_room : ℕ → Parts → ℕ → ℕ → Bool
has_room top e own cycle = not (lies_over_some top e own cycle own)

-- ---- the name of an aircraft

abbrev pub name_at : ℕ → Parts → ℕ → ℕ → List ℕ → List Mark
name_at top e own cycle name = name_marks (x_in e own cycle) (down_in top e own cycle) name

-- Its name stands beside its end where there is room, else beside its start where there is room, and else it is left out.
unfoldable pub placed_name : ℕ → Parts → ℕ → List ℕ → List Mark
placed_name top e own name =
    if has_room top e own e.cycles then name_at top e own e.cycles name
    else (if has_room top e own 1 then name_at top e own 1 name else [])
