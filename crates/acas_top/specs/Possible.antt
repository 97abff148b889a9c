-- What can be of an encounter: in any order of the steps, or whatever messages are lost besides.
use Rattle.std.specs.Prelude.{◌≡◌, ℕ, ◌⊎◌, List, ◌∷◌, ◌++◌, codes}
use Rattle.std.specs.Fmt.{decimal}
use Rattle.acas_base.specs.Encounter.{Parts}
use Rattle.acas_base.specs.declared.entry.Entry.{Entry}
use Rattle.acas_lines.specs.Lines.{joined}
use Rattle.acas_text.specs.Hex.{hex}
use Rattle.acas_top.specs.Refusing.{Refuses}
use Rattle.air_journal.specs.Airs.{address_of, air_of}
use Rattle.air_rules.specs.Serial.{IsSerial}
use Rattle.enc_file.specs.Reading.{Says}
use Rattle.pair_ways.specs.declared.scope.Scope.{Scope}
use Rattle.pair_ways.specs.declared.ways.TooMany.{TooMany}
use Rattle.possibilities.specs.Listed.{IsListed, Listed}
use Rattle.possibilities.specs.Listing.{listing_lines}
use Rattle.possibilities.specs.Rows.{Found, IsPastBound}

-- An encounter with its serial journal, what is found, and what runs show.
abbrev pub listed_of : Scope → Parts → List Entry → Found → Found → Listed
listed_of scope e journal found shown = record { encounter = e; journal = journal; scope = scope; found = found; shown = shown }

-- The same was found of the same run. More of it may be shown.
pub record StaysFound (old new : Listed) : Type 0 where
  pub encounter : new.encounter ≡ old.encounter
  pub journal : new.journal ≡ old.journal
  pub scope : new.scope ≡ old.scope
  pub found : new.found ≡ old.found

-- The bytes say an encounter. The text lists what each of its aircraft can advise in each cycle, and in which cycles two
-- can have equal senses. Nothing else ever occurs (`possibilities`, `never_law`). What is marked as shown occurs in some
-- run.
pub record Lists (scope : Scope) (bytes text : List ℕ) : Type 0 where
  pub encounter : Parts
  pub journal : List Entry
  pub found : Found
  pub shown : Found
  pub says : Says bytes encounter
  pub serial : IsSerial (air_of encounter) journal
  pub listed : IsListed (listed_of scope encounter journal found shown)
  pub text_is : text ≡ joined (listing_lines (listed_of scope encounter journal found shown))

-- The line that says for which two aircraft, and after which cycle, there are more states than the search keeps.
abbrev pub bound_line : Parts → TooMany → List ℕ
bound_line e stop = codes "bound," ++ hex 6 (address_of e stop.low) ++ 44 ∷ hex 6 (address_of e stop.high) ++ 44 ∷ decimal stop.cycle ++ codes "\n"

-- The bytes say an encounter in which two aircraft have more states than the search keeps, and the text says so.
pub record HasTooManyStates (scope : Scope) (bytes text : List ℕ) : Type 0 where
  pub encounter : Parts
  pub says : Says bytes encounter
  pub stop : TooMany
  pub past : IsPastBound scope encounter stop
  pub text_is : text ≡ bound_line encounter stop

-- Nothing is listed.
abbrev pub IsNotListed : Scope → List ℕ → List ℕ → Type 0
IsNotListed scope bytes text = Refuses bytes text ⊎ HasTooManyStates scope bytes text
