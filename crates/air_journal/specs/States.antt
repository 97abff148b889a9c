-- The state of the air.
use Rattle.std.specs.Prelude.{◌≡◌, ◌*◌, ◌≤◌, List, Option, length}
use Rattle.acas_base.specs.Encounter.{IsEncounter, Parts}
use Rattle.acas_base.specs.declared.entry.Entry.{Entry}
use Rattle.acas_base.specs.declared.link.Fate.{Fate}
use Rattle.air_journal.specs.Airs.{air_of}
use Rattle.air_journal.specs.Kept.{HaveRoom, IsKept, Kept}
use Rattle.air_journal.specs.Usual.{AreUsual}
use Rattle.air_journal.specs.Written.{Written}
use Rattle.air_rules.specs.Length.{most_entries}
use Rattle.air_rules.specs.Rules.{IsLegal}
use Rattle.flight.specs.Inside.{IsInside}

-- An encounter and a journal of it, the newest entry first.
pub record State : Type 0 where
  pub encounter : Parts
  pub journal : List Entry

-- An encounter inside the box, and a legal journal of it.
pub record IsJournalOf (e : Parts) (journal : List Entry) : Type 0 where
  pub valid : IsEncounter e
  pub inside : IsInside e
  pub legal : IsLegal (air_of e) journal

-- A legal journal, what is kept beside it, and memory for the whole run of the encounter's aircraft.
pub record IsWhole (e : Parts) (journal : Written) (tables : Kept) : Type 0 where
  pub is_journal : IsJournalOf e journal.entries
  pub kept : IsKept (air_of e) journal.entries tables
  pub queues : HaveRoom (air_of e) tables
  pub room : most_entries (air_of e) ≤ journal.room
  pub crafts : journal.crafts ≡ length e.crafts
  pub places : journal.places ≡ e.cycles * length e.crafts

-- Such a state, with the usual fates of its encounter.
pub record IsState (e : Parts) (fates : List (Option Fate)) (journal : Written) (tables : Kept) : Type 0 where
  pub usual : AreUsual e fates
  pub whole : IsWhole e journal tables
