-- What comes first doesn't follow from what is seen later.
use Rattle.std.specs.Prelude.{◌≡◌, ℕ, ◌≤◌, Bool, false, if◌then◌else◌, nat_lt, List, [], ◌∷◌}
use Rattle.std.specs.List.{list_any}
use Rattle.acas_base.specs.declared.advisory.Cells.{Cells}
use Rattle.acas_base.specs.declared.entry.Entry.{Entry}
use Rattle.acas_base.specs.declared.entry.Entry.TheVariants.{Commit, Send, Take}
use Rattle.air_rules.specs.Journal.{Begins}

-- The entry is a commit of a later cycle than this one.
abbrev pub is_commit_after : ℕ → Entry → Bool
is_commit_after last (Commit own cycle cells) = nat_lt last cycle
is_commit_after last (Send own target number word) = false
is_commit_after last (Take own send copy good) = false

-- The journal before its first commit of a cycle after the last one of these. Of a serial journal these are its first
-- rounds, up to the end of this one: all commits, sends and takes.
abbrev pub rounds_to : List Entry → ℕ → List Entry
rounds_to [] last = []
rounds_to (entry ∷ earlier) last = if list_any (is_commit_after last) (entry ∷ earlier) then rounds_to earlier last else entry ∷ earlier

-- Two journals are the same up to the end of a round.
pub record AreTheSameTo (one two : List Entry) (last : ℕ) : Type 0 where
  pub rounds_are : rounds_to one last ≡ rounds_to two last
  -- So a commit of these rounds stands in both, after the same entries.
  pub commits_are : (own cycle : ℕ) (cells : Cells) (earlier : List Entry) →
      cycle ≤ last → Begins (Commit own cycle cells ∷ earlier) one → Begins (Commit own cycle cells ∷ earlier) two
  -- And an aircraft has the same cells in both.
  pub cells_are : (own cycle : ℕ) (earlier_one earlier_two : List Entry) (cells_one cells_two : Cells) →
      cycle ≤ last → Begins (Commit own cycle cells_one ∷ earlier_one) one → Begins (Commit own cycle cells_two ∷ earlier_two) two →
      cells_one ≡ cells_two
