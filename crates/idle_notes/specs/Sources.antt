-- What the notes go by: an encounter, and the journal of a recording.
use Rattle.std.specs.Prelude.{ℕ, List, Option, Some, None}
use Rattle.acas_base.specs.Encounter.{Parts}
use Rattle.acas_base.specs.declared.entry.Entry.{Entry}
use Rattle.idle_notes.specs.declared.source.Source.{Source}
use Rattle.idle_notes.specs.declared.source.Source.TheVariants as source

abbrev pub encounter_in : Source → Parts
encounter_in (source.Encounter e) = e.now
encounter_in (source.Recording d) = d.now.encounter

-- An encounter that was read by itself has no journal.
abbrev pub journal_in : Source → Option (List Entry)
journal_in (source.Encounter e) = None
journal_in (source.Recording d) = Some d.now.journal

-- The text of a file, the encounter in it, and the journal, where the file is a recording.
pub record Read : Type 0 where
  pub text : List ℕ
  pub encounter : Parts
  pub journal : Option (List Entry)
