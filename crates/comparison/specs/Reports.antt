-- The reports of two journals.
use Rattle.std.specs.Prelude.{◌≡◌, ℕ, ◌<◌, ◌≤◌, Bool, ◌==◌, if◌then◌else◌, List, [], ◌++◌, length}
use Rattle.std.specs.Cmp.Lexicographic.{pointwise}
use Rattle.std.specs.List.{flat_map, range_with_len}
use Rattle.air_journal.specs.States.{State}
use Rattle.comparison.specs.Sides.{told}
use Rattle.comparison.specs.declared.sides.Side.TheVariants.{One, Other}
use Rattle.rec_text.specs.Report.{report_of}

-- The line of the report for an aircraft's commit of a cycle, where it has one.
abbrev pub line_in : State → ℕ → ℕ → List (List ℕ)
line_in state cycle own = report_of state.encounter state.journal cycle own

abbrev pub is_same : List (List ℕ) → List (List ℕ) → Bool
is_same one other = pointwise (pointwise ◌==◌) one other

-- What each side alone has.
abbrev pub apart : List (List ℕ) → List (List ℕ) → List (List ℕ)
apart one other = if is_same one other then [] else told One one ++ told Other other

-- For one commit; for those of a cycle, by index; and for all, by cycle.
abbrev pub apart_in : State → State → ℕ → ℕ → List (List ℕ)
apart_in one other cycle own = apart (line_in one cycle own) (line_in other cycle own)

abbrev pub apart_in_cycle : State → State → ℕ → List (List ℕ)
apart_in_cycle one other cycle = flat_map (apart_in one other cycle) (range_with_len 0 (length one.encounter.crafts))

unfoldable pub apart_lines : State → State → List (List ℕ)
apart_lines one other = flat_map (apart_in_cycle one other) (range_with_len 1 one.encounter.cycles)

-- After each commit both reports have the same line or none.
abbrev pub AreSameReports : State → State → Type 0
AreSameReports one other = (cycle own : ℕ) → 1 ≤ cycle → cycle ≤ one.encounter.cycles → own < length one.encounter.crafts → line_in one cycle own ≡ line_in other cycle own
