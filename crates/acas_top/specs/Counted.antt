-- The counts of a run.
use Rattle.std.specs.Prelude.{◌≡◌, List, length, ◌++◌, ℕ, codes}
use Rattle.std.specs.Fmt.{decimal}
use Rattle.acas_base.specs.Encounter.{Parts}
use Rattle.acas_base.specs.declared.entry.Entry.{Entry}
use Rattle.air_journal.specs.Airs.{air_of}
use Rattle.air_rules.specs.Serial.{IsSerial}
use Rattle.rec_text.specs.EntryCounts.{entry_counts}
use Rattle.rec_text.specs.Report.{report_lines}
use Rattle.sweep.specs.declared.counts.Counts.{Counts}

-- The counts of a journal: its entries of each kind, and the lines of its report.
abbrev pub counts_of : Parts → List Entry → Counts
counts_of e journal = record {
  commits = (entry_counts journal).commits;
  sends = (entry_counts journal).sends;
  takes = (entry_counts journal).takes;
  lines = length (report_lines e journal);
}

-- The counts are those of the serial journal of an encounter.
pub record AreSerial (e : Parts) (counts : Counts) : Type 0 where
  pub journal : List Entry
  pub serial : IsSerial (air_of e) journal
  pub counts_are : counts ≡ counts_of e journal

-- The end of a line with counts: commits, sends, takes, report lines.
abbrev pub counts_text : Counts → List ℕ
counts_text counts = decimal counts.commits ++ codes "," ++ decimal counts.sends ++ codes "," ++ decimal counts.takes ++ codes "," ++ decimal counts.lines ++ codes "\n"
