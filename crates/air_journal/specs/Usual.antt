-- The fates of most messages.
use Rattle.std.specs.Prelude.{◌≡◌, ◌≢◌, ◌⊎◌, ℕ, ◌+◌, ◌*◌, ◌<◌, List, length, Option, Some, None, slice_index_or}
use Rattle.acas_base.specs.Encounter.{Parts}
use Rattle.acas_base.specs.Fates.{copies_of, fate_of}
use Rattle.acas_base.specs.declared.TheConstants.{CRAFTS}
use Rattle.acas_base.specs.declared.link.Fate.{Fate}

-- Where a fate is kept of an ordered pair, each message of the pair has its copies.
abbrev pub IsUsual : Parts → ℕ → ℕ → Option Fate → Type 0
IsUsual e sender receiver None = Unit {0}
IsUsual e sender receiver (Some fate) = (number : ℕ) → copies_of fate ≡ copies_of (fate_of e sender receiver number)

abbrev pub usual_at : List (Option Fate) → ℕ → ℕ → Option Fate
usual_at fates sender receiver = slice_index_or fates (sender * CRAFTS + receiver) None

pub record AreUsual (e : Parts) (fates : List (Option Fate)) : Type 0 where
  pub size : length fates ≡ 256
  pub each : (sender receiver : ℕ) → sender < CRAFTS → receiver < CRAFTS → IsUsual e sender receiver (usual_at fates sender receiver)

-- None of the first `count` records of fates is of this pair.
abbrev pub NoneNames : List Fate → ℕ → ℕ → ℕ → Type 0
NoneNames records count sender receiver = (at : ℕ) → at < count → (it : Fate)
    → ((slice_index_or records at it).sender ≢ sender) ⊎ ((slice_index_or records at it).receiver ≢ receiver)

-- The fate of a message without a record is kept, where none of the first `count` records is of the pair.
abbrev pub IsUnnamed : Parts → ℕ → ℕ → ℕ → Option Fate → Type 0
IsUnnamed e count sender receiver None = Unit {0}
IsUnnamed e count sender receiver (Some fate) = (fate ≡ fate_of e sender receiver 0) × NoneNames e.fates count sender receiver

pub record AreUnnamed (e : Parts) (count : ℕ) (fates : List (Option Fate)) : Type 0 where
  pub size : length fates ≡ 256
  pub each : (sender receiver : ℕ) → sender < CRAFTS → receiver < CRAFTS → IsUnnamed e count sender receiver (usual_at fates sender receiver)
