-- What `instance` answers: a run that has what is wanted, or why there is none.
use Rattle.std.specs.Prelude.{◌≡◌, ◌⊎◌, ℕ, ◌≤◌, List, None, Option, Some, Result, Ok, Err, codes, if◌then◌else◌}
use Rattle.acas_base.specs.Encounter.{Parts}
use Rattle.acas_base.specs.declared.entry.Entry.{Entry}
use Rattle.acas_text.specs.Hex.{hex}
use Rattle.acas_top.specs.Flying.{unknown_line}
use Rattle.acas_top.specs.Possible.{IsNotListed}
use Rattle.acas_top.specs.Varying.{index_of}
use Rattle.air_journal.specs.Airs.{air_of}
use Rattle.air_journal.specs.States.{State}
use Rattle.air_rules.specs.Air.{is_ra}
use Rattle.air_rules.specs.Safe.{IsSafe}
use Rattle.air_rules.specs.Settled.{IsSettled}
use Rattle.enc_file.specs.Reading.{Says}
use Rattle.instances.specs.Having.{Has, IsInstance}
use Rattle.instances.specs.declared.sought.Sought.{Sought}
use Rattle.instances.specs.declared.sought.Sought.TheVariants as sought
use Rattle.pair_ways.specs.Asked.{IsCovered}
use Rattle.pair_ways.specs.declared.scope.Scope.{Scope}
use Rattle.possibilities.specs.Rows.{AreFound, Found}
use Rattle.rec_text.specs.Recording.{recording}
use Rattle.report_words.specs.declared.wanted.Wanted.{Wanted}
use Rattle.report_words.specs.declared.wanted.Wanted.TheVariants as wanted
use Rattle.report_words.specs.declared.word.Word.{Word}

-- ---- who is meant

-- The index of an aircraft, where it is of kind RA.
abbrev pub if_resolving : Parts → Option ℕ → Option ℕ
if_resolving e None = None
if_resolving e (Some own) = if is_ra (air_of e) own then Some own else None

abbrev pub word_at : Option ℕ → ℕ → ℕ → Word → Result Sought ℕ
word_at None address cycle word = Err address
word_at (Some own) address cycle word = Ok (sought.Word own cycle word)

abbrev pub equal_at : Option ℕ → Option ℕ → ℕ → ℕ → ℕ → Result Sought ℕ
equal_at None second one other cycles = Err one
equal_at (Some first) None one other cycles = Err other
equal_at (Some first) (Some second) one other cycles = Ok (sought.Equal first second cycles)

-- What is wanted, by the indices of the aircraft; or the first address that none has, or of two none of kind RA.
abbrev pub sought_in : Parts → Wanted → Result Sought ℕ
sought_in e (wanted.Word address cycle word) = word_at (index_of e.crafts address) address cycle word
sought_in e (wanted.Equal one other cycles) = equal_at (if_resolving e (index_of e.crafts one)) (if_resolving e (index_of e.crafts other)) one other cycles

-- Its cycle is the first one or a later one, or it is of one cycle at least.
abbrev pub IsBegun : Sought → Type 0
IsBegun (sought.Word own cycle word) = 1 ≤ cycle
IsBegun (sought.Equal one other cycles) = 1 ≤ cycles

-- ---- the answer

-- The text is the recording of a run that has what is sought. All that the rules promise of a run holds of it, too.
pub record IsShown (scope : Scope) (e : Parts) (what : Sought) (text : List ℕ) : Type 0 where
  pub run : State
  pub shows : IsInstance scope e what run
  pub safe : IsSafe (air_of run.encounter) run.journal
  pub settled : IsSettled (air_of run.encounter) run.journal
  pub text_is : text ≡ recording run.encounter run.journal

-- No legal and complete journal of an encounter that is asked about has it, and the text says so.
pub record IsNever (scope : Scope) (e : Parts) (what : Sought) (text : List ℕ) : Type 0 where
  pub never : (journal : List Entry) → IsCovered scope e journal → Has journal what → ⊥
  pub text_is : text ≡ codes "never\n"

-- The text says that neither was found.
abbrev pub IsOpen : List ℕ → Type 0
IsOpen text = text ≡ codes "open\n"

-- The bytes say an encounter, and the text shows what is wanted, or says that there is no such run, or that this stays
-- open.
pub record Shows (scope : Scope) (want : Wanted) (bytes text : List ℕ) : Type 0 where
  pub encounter : Parts
  pub says : Says bytes encounter
  pub what : Sought
  pub known : sought_in encounter want ≡ Ok what
  pub found : Found
  pub within : AreFound scope encounter found
  pub shows : IsShown scope encounter what text ⊎ (IsNever scope encounter what text ⊎ IsOpen text)

-- The bytes say an encounter in which no aircraft is meant by an address, and the text has the first such address.
pub record NamesNobody (want : Wanted) (bytes text : List ℕ) : Type 0 where
  pub encounter : Parts
  pub says : Says bytes encounter
  pub address : ℕ
  pub unknown : sought_in encounter want ≡ Err address
  pub text_is : text ≡ unknown_line (hex 6 address)

-- Nothing is shown.
abbrev pub IsNotShown : Scope → Wanted → List ℕ → List ℕ → Type 0
IsNotShown scope want bytes text = IsNotListed scope bytes text ⊎ NamesNobody want bytes text
