-- Entries that are read where they are kept.
use Rattle.acas_base.specs.declared.entry.Entry.{Entry}
use Rattle.acas_base.specs.declared.entry.Entry.TheVariants as entries
use Rattle.air_journal.specs.declared.entry_ref.EntryRef.{EntryRef}
use Rattle.air_journal.specs.declared.entry_ref.EntryRef.TheVariants.{Commit, Send, Take}

-- The entry itself.
abbrev pub entry_of : EntryRef → Entry
entry_of (Commit own cycle cells) = entries.Commit own cycle cells.now
entry_of (Send own target number word) = entries.Send own target number word
entry_of (Take own send copy good) = entries.Take own send copy good
