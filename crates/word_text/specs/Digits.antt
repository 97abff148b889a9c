-- The digits of a word of 56 bits.
use Rattle.std.specs.Prelude.{◌≡◌, ℕ, ◌<◌, ◌≤◌, ◌^◌, ◌⊎◌, List, length}
use Rattle.std.specs.List.{AllByRecursion}
use Rattle.acas_text.specs.Hex.{hex}

-- A digit 0-9A-F.
abbrev pub IsDigit : ℕ → Type 0
IsDigit c = ((48 ≤ c) × (c ≤ 57)) ⊎ ((65 ≤ c) × (c ≤ 70))

-- Fourteen of them.
abbrev pub AreDigits : List ℕ → Type 0
AreDigits text = (length text ≡ 14) × AllByRecursion IsDigit text

-- The text is a word's fourteen digits 0-9A-F, the highest first.
abbrev pub Spells : List ℕ → ℕ → Type 0
Spells text word = (word < 2 ^ 56) × (text ≡ hex 14 word)
