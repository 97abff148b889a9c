-- How many entries of each kind a journal has.
use Rattle.std.specs.Prelude.{◌+◌, Bool, true, false, List}
use Rattle.std.specs.List.{count_by}
use Rattle.acas_base.specs.declared.entry.Entry.{Entry}
use Rattle.acas_base.specs.declared.entry.Entry.TheVariants.{Commit, Send, Take}
use Rattle.rec_text.specs.declared.counts.EntryCounts.{EntryCounts as Counts}

abbrev pub is_commit : Entry → Bool
is_commit (Commit own cycle cells) = true
is_commit entry = false

abbrev pub is_send : Entry → Bool
is_send (Send own target number word) = true
is_send entry = false

abbrev pub is_take : Entry → Bool
is_take (Take own send copy good) = true
is_take entry = false

abbrev pub entry_counts : List Entry → Counts
entry_counts journal = record { commits = count_by is_commit journal; sends = count_by is_send journal; takes = count_by is_take journal }

-- The counts with one entry more.
abbrev pub with_entry : Counts → Entry → Counts
with_entry counts (Commit own cycle cells) = record { commits = counts.commits + 1; sends = counts.sends; takes = counts.takes }
with_entry counts (Send own target number word) = record { commits = counts.commits; sends = counts.sends + 1; takes = counts.takes }
with_entry counts (Take own send copy good) = record { commits = counts.commits; sends = counts.sends; takes = counts.takes + 1 }
