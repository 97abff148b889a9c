-- Words in a text.
use Rattle.std.specs.Prelude.{ℕ, Bool, ◌&&◌, ◌==◌, if◌then◌else◌, nat_le, List, [], ◌∷◌, codes}
use Rattle.std.specs.List.{flat_map}

abbrev pub is_printable : ℕ → Bool
is_printable byte = nat_le 32 byte && nat_le byte 126

-- `&`, `<` and `>` have meanings in the text, so references stand for them. A byte that isn't printable is told as `?`.
unfoldable pub escaped_byte : ℕ → List ℕ
escaped_byte byte =
    if byte == 38 then codes "&amp;" else (if byte == 60 then codes "&lt;" else (if byte == 62 then codes "&gt;" else (if is_printable byte then byte ∷ [] else codes "?")))

abbrev pub escaped : List ℕ → List ℕ
escaped words = flat_map escaped_byte words
