-- The entry that is allowed about a thing.
use Rattle.std.specs.Prelude.{◌≡◌, ℕ, List}
use Rattle.acas_base.specs.declared.entry.Entry.{Entry}
use Rattle.air_rules.specs.Air.{Air}
use Rattle.air_rules.specs.Rules.{IsAllowed}
use Rattle.rec_audit.specs.Keys.{key}
use Rattle.rec_audit.specs.declared.keys.Key.{Key}
use Rattle.rec_text.specs.Entries.{entry_line}

-- An entry about a thing is allowed.
pub record IsAllowedAbout (air : Air) (journal : List Entry) (about : Key) : Type 0 where
  pub entry : Entry
  pub about_is : key entry ≡ about
  pub allowed : IsAllowed air journal entry

-- The line of an entry that is allowed about a thing.
pub record IsAllowedLine (air : Air) (journal : List Entry) (about : Key) (line : List ℕ) : Type 0 where
  pub some : IsAllowedAbout air journal about
  pub line_is : line ≡ entry_line air.count some.entry
