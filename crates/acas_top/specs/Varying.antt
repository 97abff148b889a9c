-- What `vary` answers: a line for the encounter as it is, and one for each of its variants; or why there are none.
use Rattle.std.specs.Prelude.{◌≡◌, ◌↔◌, ◌⊎◌, ℕ, ◌+◌, ◌<◌, ◌≤◌, ◌==◌, if◌then◌else◌, List, ◌∷◌, ◌++◌, IfSome, MatchOption, None, Option, Some, codes, is_none, length, map, position, slice_get, slice_index_or, unwrap_or}
use Rattle.std.specs.List.{AllZip, range_with_len}
use Rattle.acas_base.specs.Encounter.{Parts}
use Rattle.acas_base.specs.declared.craft.CraftSpec.{CraftSpec}
use Rattle.acas_base.specs.declared.entry.Entry.{Entry}
use Rattle.acas_lines.specs.Lines.{count_line, joined}
use Rattle.acas_text.specs.Hex.{hex}
use Rattle.acas_top.specs.Flying.{unknown_line}
use Rattle.acas_top.specs.Refusing.{Refuses}
use Rattle.acas_top.specs.declared.status.Status.{Status}
use Rattle.acas_top.specs.declared.status.Status.TheVariants.{Done, Refused}
use Rattle.air_journal.specs.Airs.{air_of}
use Rattle.air_rules.specs.Serial.{IsSerial}
use Rattle.enc_file.specs.Reading.{Says}
use Rattle.outcomes.specs.Crews.{HearTheSame}
use Rattle.outcomes.specs.Lines.{variant_text}
use Rattle.outcomes.specs.Outcomes.{IsOutcome}
use Rattle.outcomes.specs.declared.crews.Heard.TheVariants.{Same}
use Rattle.outcomes.specs.declared.lines.Variant.{Variant}
use Rattle.outcomes.specs.declared.outcome.Outcome.{Outcome}
use Rattle.run_losses.specs.Losses.{losses_of}
use Rattle.variants.specs.Rows.{exchange_of, exchanges_of, shifts_of}
use Rattle.variants.specs.Text.{value_text}
use Rattle.variants.specs.Variants.{IsVariant}
use Rattle.variants.specs.declared.change.Change.{Change}
use Rattle.variation_words.specs.declared.variation.Variation.{Variation}
use Rattle.variation_words.specs.declared.variation.Variation.TheVariants.{Exchanges, Losses, Shifts}

-- ---- which changes there are

-- The index of the aircraft with this address.
abbrev pub index_of : List CraftSpec → ℕ → Option ℕ
index_of crafts address = position (λ (craft : CraftSpec). craft.address == address) crafts

-- The address of a variation, where no aircraft has it.
abbrev pub unknown_in : Variation → List CraftSpec → Option ℕ
unknown_in (Shifts quantity address values) crafts = if is_none (index_of crafts address) then Some address else None
unknown_in Losses crafts = None
unknown_in Exchanges crafts = None

-- The changes of a variation, in order: of the encounter, whose serial journal this is.
abbrev pub changes_of : Variation → Parts → List Entry → List Change
changes_of (Shifts quantity address values) e journal = shifts_of quantity (unwrap_or (index_of e.crafts address) 0) values
changes_of Losses e journal = losses_of e journal
changes_of Exchanges e journal = exchanges_of e.crafts

-- ---- what they come to

-- What the serial run of the variant comes to, and whether its crews see and hear what those of this journal do.
pub record IsPlayedAs (e : Parts) (journal : List Entry) (change : Change) (it : Variant) : Type 0 where
  pub varied : Parts
  pub is : IsVariant e change varied
  pub played : List Entry
  pub serial : IsSerial (air_of varied) played
  pub outcome : IsOutcome varied played it.outcome
  pub heard : (it.heard ≡ Same) ↔ HearTheSame journal played (length varied.crafts) varied.cycles

-- The same of a change for which there may be no variant.
abbrev pub IsPlayed : Parts → List Entry → Change → Option Variant → Type 0
IsPlayed e journal change given = MatchOption given ((d : Parts) → IsVariant e change d → ⊥) (IsPlayedAs e journal change)

-- ---- the text

-- The line of the encounter as it is.
abbrev pub whole_line : Outcome → List ℕ
whole_line outcome = codes "v,-" ++ variant_text (Some (record { outcome = outcome; heard = Same }))

-- The line of a change.
abbrev pub change_line : List CraftSpec → Change → Option Variant → List ℕ
change_line crafts change given = codes "v," ++ value_text crafts change ++ variant_text given

-- The line at a place, counted from 0.
abbrev pub line_at : List CraftSpec → List Change → List (Option Variant) → ℕ → List ℕ
line_at crafts changes list place = change_line crafts (slice_index_or changes place (exchange_of 0 0)) (slice_index_or list place None)

abbrev pub change_lines : List CraftSpec → List Change → List (Option Variant) → List (List ℕ)
change_lines crafts changes list = map (line_at crafts changes list) (range_with_len 0 (length changes))

-- First a line with how many there are, then that of the encounter as it is, and then one for each change, in order.
abbrev pub varied_lines : List CraftSpec → Outcome → List Change → List (Option Variant) → List (List ℕ)
varied_lines crafts outcome changes list = count_line (codes "vary") (length changes + 1) ∷ whole_line outcome ∷ change_lines crafts changes list

-- The text tells an encounter with this serial journal, and these changes of it.
pub record TellsChanges (e : Parts) (journal : List Entry) (changes : List Change) (text : List ℕ) : Type 0 where
  pub few : length changes ≤ 4096
  pub outcome : Outcome
  pub is : IsOutcome e journal outcome
  pub list : List (Option Variant)
  pub played : AllZip (IsPlayed e journal) changes list
  pub text_is : text ≡ joined (varied_lines e.crafts outcome changes list)

-- There are more changes than are played, and the text says how many.
pub record AreTooMany (changes : List Change) (text : List ℕ) : Type 0 where
  pub many : 4096 < length changes
  pub text_is : text ≡ count_line (codes "variants") (length changes)

-- This status and this text answer for these changes.
abbrev pub AnswersChanges : Parts → List Entry → List Change → Status → List ℕ → Type 0
AnswersChanges e journal changes Done text = TellsChanges e journal changes text
AnswersChanges e journal changes Refused text = AreTooMany changes text
AnswersChanges e journal changes status text = ⊥

-- ---- the answer

-- The bytes say an encounter, and the text tells it and its variants.
pub record Varies (variation : Variation) (bytes text : List ℕ) : Type 0 where
  pub encounter : Parts
  pub says : Says bytes encounter
  pub known : unknown_in variation encounter.crafts ≡ None
  pub journal : List Entry
  pub serial : IsSerial (air_of encounter) journal
  pub told : TellsChanges encounter journal (changes_of variation encounter journal) text

-- The bytes say an encounter in which no aircraft has the address, and the text says so.
pub record NamesNobody (variation : Variation) (bytes text : List ℕ) : Type 0 where
  pub encounter : Parts
  pub says : Says bytes encounter
  pub address : ℕ
  pub unknown : unknown_in variation encounter.crafts ≡ Some address
  pub text_is : text ≡ unknown_line (hex 6 address)

-- The bytes say an encounter that has more variants than are played, and the text says how many.
pub record HasTooMany (variation : Variation) (bytes text : List ℕ) : Type 0 where
  pub encounter : Parts
  pub says : Says bytes encounter
  pub journal : List Entry
  pub serial : IsSerial (air_of encounter) journal
  pub many : AreTooMany (changes_of variation encounter journal) text

-- There are no variants to tell.
abbrev pub IsNotVaried : Variation → List ℕ → List ℕ → Type 0
IsNotVaried variation bytes text = Refuses bytes text ⊎ (NamesNobody variation bytes text ⊎ HasTooMany variation bytes text)

-- ---- while they are played

-- An encounter with its serial journal, and changes of it.
pub record Base : Type 0 where
  pub encounter : Parts
  pub journal : List Entry
  pub changes : List Change

-- What is given of the change at a place, counted from 0.
abbrev pub IsGiven : Base → ℕ → Option Variant → Type 0
IsGiven base place given = IfSome (slice_get base.changes place) (λ change. IsPlayed base.encounter base.journal change given)

-- An encounter's aircraft, its outcome, and its changes with what is given of each.
pub record Found : Type 0 where
  pub crafts : List CraftSpec
  pub outcome : Outcome
  pub changes : List Change
  pub list : List (Option Variant)

-- It was found of this encounter.
pub record IsFound (base : Base) (found : Found) : Type 0 where
  pub crafts : found.crafts ≡ base.encounter.crafts
  pub changes : found.changes ≡ base.changes
  pub outcome : IsOutcome base.encounter base.journal found.outcome
  pub played : AllZip (IsPlayed base.encounter base.journal) base.changes found.list
