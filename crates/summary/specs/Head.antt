-- The head of the page.
use Rattle.std.specs.Prelude.{ℕ, ◌+◌, Bool, true, false, if◌then◌else◌, nat_lt, ℤ, List, [], ◌∷◌, ◌++◌, codes, filter, length}
use Rattle.std.specs.Fmt.{decimal, signed_decimal}
use Rattle.acas_base.specs.Encounter.{Parts}
use Rattle.acas_base.specs.declared.craft.CraftSpec.{CraftSpec}
use Rattle.acas_base.specs.declared.craft.Kind.{Kind}
use Rattle.acas_base.specs.declared.craft.Kind.TheVariants.{Ra, Ta, Xpdr}
use Rattle.acas_base.specs.declared.entry.Entry.{Entry}
use Rattle.acas_base.specs.declared.entry.Entry.TheVariants.{Commit, Send, Take}
use Rattle.summary.specs.Lines.{quiet}
use Rattle.summary.specs.declared.head.EntryCounts.{EntryCounts}

-- ---- counts

abbrev pub is_same_kind : Kind → Kind → Bool
is_same_kind Ra Ra = true
is_same_kind Ra Ta = false
is_same_kind Ra Xpdr = false
is_same_kind Ta Ra = false
is_same_kind Ta Ta = true
is_same_kind Ta Xpdr = false
is_same_kind Xpdr Ra = false
is_same_kind Xpdr Ta = false
is_same_kind Xpdr Xpdr = true

-- How many aircraft there are of a kind.
abbrev pub count_of : Kind → List CraftSpec → ℕ
count_of kind crafts = length (filter (λ (craft : CraftSpec). is_same_kind kind craft.kind) crafts)

-- How many entries there are of each kind.
abbrev pub with_entry : EntryCounts → Entry → EntryCounts
with_entry counts (Commit own cycle cells) = record { commits = counts.commits + 1; sends = counts.sends; takes = counts.takes }
with_entry counts (Send own target number word) = record { commits = counts.commits; sends = counts.sends + 1; takes = counts.takes }
with_entry counts (Take own send copy good) = record { commits = counts.commits; sends = counts.sends; takes = counts.takes + 1 }

abbrev pub nothing_counted : EntryCounts
nothing_counted = record { commits = 0; sends = 0; takes = 0 }

unfoldable pub entries_in : List Entry → EntryCounts
entries_in [] = nothing_counted
entries_in (entry ∷ earlier) = with_entry (entries_in earlier) entry

-- ---- the text

abbrev pub title : List ℕ
title = codes "summary,1\n"

-- How many aircraft there are, and how many of each kind.
abbrev pub crafts_line : List CraftSpec → List ℕ
crafts_line crafts =
    codes "aircraft " ++ decimal (length crafts) ++ codes ": RA " ++ decimal (count_of Ra crafts) ++ codes ", TA " ++ decimal (count_of Ta crafts)
    ++ codes ", XPDR " ++ decimal (count_of Xpdr crafts) ++ codes "\n"

abbrev pub run_line : ℕ → ℤ → List ℕ
run_line cycles elevation = codes "cycles " ++ decimal cycles ++ codes ", ground " ++ signed_decimal elevation ++ codes " ft\n"

abbrev pub entries_line : ℕ → EntryCounts → List ℕ
entries_line count entries =
    codes "entries " ++ decimal count ++ codes ": commits " ++ decimal entries.commits ++ codes ", sends " ++ decimal entries.sends ++ codes ", takes " ++ decimal entries.takes ++ codes "\n"

abbrev pub head_lines : Parts → List Entry → List (List ℕ)
head_lines e journal =
    title ∷ crafts_line e.crafts ∷ run_line e.cycles e.elevation ∷ entries_line (length journal) (entries_in journal) ∷ []

-- One aircraft alone meets nobody.
abbrev pub alone_lines : ℕ → List (List ℕ)
alone_lines crafts = if nat_lt crafts 2 then codes "\n" ∷ quiet ∷ [] else []
