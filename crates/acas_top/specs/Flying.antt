-- What `fly` answers: the encounter in which the named aircraft follow their advice, or why there is none.
use Rattle.std.specs.Prelude.{◌≡◌, ◌⊎◌, ℕ, List, ◌++◌, None, Option, Some, codes}
use Rattle.std.specs.Fmt.{decimal}
use Rattle.acas_base.specs.Encounter.{Parts, address_in}
use Rattle.acas_base.specs.declared.craft.CraftSpec.{CraftSpec}
use Rattle.acas_text.specs.Hex.{hex}
use Rattle.acas_top.specs.Refusing.{Refuses}
use Rattle.acas_top.specs.declared.status.Status.{Status}
use Rattle.acas_top.specs.declared.status.Status.TheVariants.{Done, Refused}
use Rattle.address_words.specs.Addresses.{indices_in, unknown_in}
use Rattle.address_words.specs.declared.among.Among.TheVariants.{Resolving}
use Rattle.enc_file.specs.Canonical.{canonical_text}
use Rattle.enc_file.specs.Reading.{Says}
use Rattle.followed_advice.specs.Following.{Follows, Leaves}

-- No aircraft has this address, or none that can be named.
abbrev pub unknown_line : List ℕ → List ℕ
unknown_line address = codes "unknown," ++ address ++ codes "\n"

-- The flight leaves the limits: the aircraft at an index, in a cycle.
abbrev pub leaves_line : List CraftSpec → ℕ → ℕ → List ℕ
leaves_line crafts own cycle = codes "leaves," ++ hex 6 (address_in crafts own) ++ codes "," ++ decimal cycle ++ codes "\n"

-- The indices of the named aircraft.
abbrev pub named_in : Parts → List (List ℕ) → List ℕ
named_in e names = indices_in e.crafts Resolving names

-- The first name that no aircraft of kind RA has.
abbrev pub unnamed_in : Parts → List (List ℕ) → Option (List ℕ)
unnamed_in e names = unknown_in e.crafts Resolving names

-- The bytes say an encounter, and the text is the canonical one of the encounter in which the named aircraft follow
-- their advice.
pub record Flies (names : List (List ℕ)) (bytes text : List ℕ) : Type 0 where
  pub encounter : Parts
  pub says : Says bytes encounter
  pub known : unnamed_in encounter names ≡ None
  pub written : Parts
  pub follows : Follows encounter (named_in encounter names) written
  pub text_is : text ≡ canonical_text written

-- The bytes say an encounter in which a name is that of no aircraft of kind RA, and the text has the first such name.
pub record NamesUnknown (names : List (List ℕ)) (bytes text : List ℕ) : Type 0 where
  pub encounter : Parts
  pub says : Says bytes encounter
  pub name : List ℕ
  pub unknown : unnamed_in encounter names ≡ Some name
  pub text_is : text ≡ unknown_line name

-- The bytes say an encounter. Where the named aircraft follow their advice, the flight leaves the limits, and the text
-- says where.
pub record LeavesLimits (names : List (List ℕ)) (bytes text : List ℕ) : Type 0 where
  pub encounter : Parts
  pub says : Says bytes encounter
  pub known : unnamed_in encounter names ≡ None
  pub own : ℕ
  pub cycle : ℕ
  pub leaves : Leaves encounter (named_in encounter names) own cycle
  pub text_is : text ≡ leaves_line encounter.crafts own cycle

-- There is no such encounter.
abbrev pub IsNotFlown : List (List ℕ) → List ℕ → List ℕ → Type 0
IsNotFlown names bytes text = Refuses bytes text ⊎ (NamesUnknown names bytes text ⊎ LeavesLimits names bytes text)

-- This status and this text answer `fly` with these names.
abbrev pub AnswersFlight : List (List ℕ) → List ℕ → Status → List ℕ → Type 0
AnswersFlight names bytes Done text = Flies names bytes text
AnswersFlight names bytes Refused text = IsNotFlown names bytes text
AnswersFlight names bytes status text = ⊥
