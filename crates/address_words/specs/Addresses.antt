-- Words that name aircraft by their addresses.
use Rattle.std.specs.Prelude.{ℕ, Bool, true, not, ◌&&◌, ◌||◌, ◌==◌, nat_le, nat_lt, List, [], ◌∷◌, filter_map, find, length, position, Option, is_none}
use Rattle.std.specs.List.{list_all, list_any}
use Rattle.std.specs.Str.{bytes_eq}
use Rattle.acas_base.specs.Encounter.{is_ra_kind}
use Rattle.acas_base.specs.declared.TheConstants.{CRAFTS}
use Rattle.acas_base.specs.declared.craft.CraftSpec.{CraftSpec}
use Rattle.acas_text.specs.Hex.{hex}
use Rattle.address_words.specs.declared.among.Among.{Among}
use Rattle.address_words.specs.declared.among.Among.TheVariants.{Any, Resolving}

-- ---- which words they are

-- A digit 0-9A-F.
abbrev pub is_glyph : ℕ → Bool
is_glyph byte = (nat_le 48 byte && nat_le byte 57) || (nat_le 65 byte && nat_le byte 70)

-- An address has six of them.
abbrev pub is_address : List ℕ → Bool
is_address word = length word == 6 && list_all is_glyph word

-- No two words are the same.
unfoldable pub are_apart : List (List ℕ) → Bool
are_apart [] = true
are_apart (word ∷ words) = not (list_any (λ other. bytes_eq other word) words) && are_apart words

-- One to sixteen addresses, and none twice. No encounter has more aircraft.
abbrev pub are_addresses : List (List ℕ) → Bool
are_addresses words = nat_lt 0 (length words) && (nat_le (length words) CRAFTS && (list_all is_address words && are_apart words))

-- ---- whose they are

-- An aircraft is one of these.
abbrev pub is_among : Among → CraftSpec → Bool
is_among Any craft = true
is_among Resolving craft = is_ra_kind craft.kind

-- It is one of these, and the word is its address.
abbrev pub is_named : Among → List ℕ → CraftSpec → Bool
is_named among word craft = is_among among craft && bytes_eq (hex 6 craft.address) word

-- The index of the aircraft that a word names.
abbrev pub index_in : List CraftSpec → Among → List ℕ → Option ℕ
index_in crafts among word = position (is_named among word) crafts

-- The first word that names none.
abbrev pub unknown_in : List CraftSpec → Among → List (List ℕ) → Option (List ℕ)
unknown_in crafts among words = find (λ word. is_none (index_in crafts among word)) words

-- The indices of the aircraft that the words name, in the order of the words.
abbrev pub indices_in : List CraftSpec → Among → List (List ℕ) → List ℕ
indices_in crafts among words = filter_map (index_in crafts among) words
