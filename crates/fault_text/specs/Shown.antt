-- Bytes that were read, as they may be shown.
use Rattle.std.specs.Prelude.{ℕ, ◌≤◌, ◌==◌, ◌&&◌, not, nat_le, nat_lt, if◌then◌else◌, Bool, List, [], ◌∷◌, ◌++◌, take, length, codes}
use Rattle.std.specs.List.{flat_map}
use Rattle.acas_text.specs.Hex.{hex}

-- A byte from 32 to 126, and neither `"` nor `\`.
abbrev pub is_plain : ℕ → Bool
is_plain c = nat_le 32 c && (nat_le c 126 && (not (c == 34) && not (c == 92)))

-- A plain byte is shown as it is. Another one is `\x` and two digits 0-9A-F.
abbrev pub glyphs : ℕ → List ℕ
glyphs c = if is_plain c then c ∷ [] else 92 ∷ 120 ∷ hex 2 c

-- The first 40 bytes between quotes. Behind them stand two points where there are more.
abbrev pub shown : List ℕ → List ℕ
shown bytes = 34 ∷ flat_map glyphs (take 40 bytes) ++ 34 ∷ (if nat_lt 40 (length bytes) then codes ".." else [])

-- A byte that a terminal shows, and does nothing else with.
abbrev pub IsVisible : ℕ → Type 0
IsVisible c = (32 ≤ c) × (c ≤ 126)
