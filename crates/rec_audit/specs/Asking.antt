-- The state of the air is asked which entry it allows about a thing.
use Rattle.std.specs.Prelude.{◌≡◌, ◌∷◌, Bool, MatchBool, List}
use Rattle.acas_base.specs.declared.entry.Entry.{Entry}
use Rattle.air_rules.specs.Air.{Air}
use Rattle.air_rules.specs.Rules.{IsAllowed}
use Rattle.rec_audit.specs.Keys.{key}
use Rattle.rec_audit.specs.declared.keys.Key.{Key}

-- The allowed entry about a thing was added.
pub record Added (air : Air) (old new : List Entry) (about : Key) : Type 0 where
  pub entry : Entry
  pub about_is : key entry ≡ about
  pub allowed : IsAllowed air old entry
  pub new_is : new ≡ entry ∷ old

-- Nothing about it is allowed.
abbrev pub NothingAbout : Air → List Entry → Key → Type 0
NothingAbout air journal about = (entry : Entry) → key entry ≡ about → IsAllowed air journal entry → ⊥

-- The allowed entry about a thing was added, or none is allowed.
abbrev pub Asks : Air → List Entry → List Entry → Key → Bool → Type 0
Asks air old new about added = MatchBool added (Added air old new about) (NothingAbout air old about)
