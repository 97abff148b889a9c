-- Well-formed text, by the rules of XML: elements nest and close, each attribute is quoted and stands once in its tag,
-- and no `<`, `&` or control byte stands in values and texts but as a reference. All bytes are ASCII.
use Rattle.std.specs.Prelude.{◌≡◌, ℕ, Bool, true, false, not, ◌&&◌, ◌||◌, ◌==◌, nat_le, List, [], ◌∷◌, ◌++◌, codes}
use Rattle.svg_text.specs.Escaped.{is_printable}

-- ---- bytes

abbrev pub is_letter : ℕ → Bool
is_letter byte = (nat_le 65 byte && nat_le byte 90) || (nat_le 97 byte && nat_le byte 122)

abbrev pub is_digit : ℕ → Bool
is_digit byte = nat_le 48 byte && nat_le byte 57

-- A letter, a digit, or `-`.
abbrev pub is_name_byte : ℕ → Bool
is_name_byte byte = is_letter byte || is_digit byte || byte == 45

-- Printable or a line feed, and neither `<` nor `&`.
abbrev pub is_plain_byte : ℕ → Bool
is_plain_byte byte = (is_printable byte || byte == 10) && not (byte == 60) && not (byte == 38)

-- A value has no quote, and a text no `>`.
unfoldable pub is_value_byte : ℕ → Bool
is_value_byte byte = is_plain_byte byte && not (byte == 34)

unfoldable pub is_text_byte : ℕ → Bool
is_text_byte byte = is_plain_byte byte && not (byte == 62)

abbrev pub each_byte : (ℕ → Bool) → List ℕ → Bool
each_byte test [] = true
each_byte test (byte ∷ rest) = test byte && each_byte test rest

-- ---- names

-- A letter, and then letters, digits and `-`.
abbrev pub is_name : List ℕ → Bool
is_name [] = false
is_name (byte ∷ rest) = is_letter byte && each_byte is_name_byte rest

abbrev pub is_same_name : List ℕ → List ℕ → Bool
is_same_name [] [] = true
is_same_name [] (byte ∷ rest) = false
is_same_name (byte ∷ rest) [] = false
is_same_name (a ∷ as_rest) (b ∷ bs_rest) = a == b && is_same_name as_rest bs_rest

abbrev pub is_among : List ℕ → List (List ℕ) → Bool
is_among name [] = false
is_among name (other ∷ names) = is_same_name name other || is_among name names

-- ---- tags

-- A space, the name, `=`, and the value between quotes.
abbrev pub attribute_text : List ℕ → List ℕ → List ℕ
attribute_text name value = codes " " ++ name ++ codes "=\"" ++ value ++ codes "\""

-- The attributes of a tag, and their names, each of which stands once.
pub data AreAttributes : List (List ℕ) → List ℕ → Type 0 where
  no_more : AreAttributes [] []
  one_more : (name value : List ℕ) (names : List (List ℕ)) (rest : List ℕ) → is_name name ≡ true → each_byte is_value_byte value ≡ true
      → is_among name names ≡ false → AreAttributes names rest → AreAttributes (name ∷ names) (attribute_text name value ++ rest)

-- An element: its first tag with its attributes, what is inside, and its last tag, which has the same name.
abbrev pub element_text : List ℕ → List ℕ → List ℕ → List ℕ
element_text name attributes inside = codes "<" ++ name ++ attributes ++ codes ">" ++ inside ++ codes "</" ++ name ++ codes ">"

-- ---- content

-- What stands for a byte that has a meaning in the text.
pub data IsReference : List ℕ → Type 0 where
  ampersand : IsReference (codes "&amp;")
  less : IsReference (codes "&lt;")
  greater : IsReference (codes "&gt;")

-- What is inside an element: bytes, references and elements.
pub data IsContent : List ℕ → Type 0 where
  nothing : IsContent []
  byte : (c : ℕ) (rest : List ℕ) → is_text_byte c ≡ true → IsContent rest → IsContent (c ∷ rest)
  reference : (text rest : List ℕ) → IsReference text → IsContent rest → IsContent (text ++ rest)
  element : (name attributes inside rest : List ℕ) (names : List (List ℕ)) → is_name name ≡ true → AreAttributes names attributes
      → IsContent inside → IsContent rest → IsContent (element_text name attributes inside ++ rest)

-- A document: one element, and a line feed behind it.
pub record IsDocument (text : List ℕ) : Type 0 where
  pub name : List ℕ
  pub names : List (List ℕ)
  pub attributes : List ℕ
  pub inside : List ℕ
  pub named : is_name name ≡ true
  pub attributed : AreAttributes names attributes
  pub filled : IsContent inside
  pub whole : text ≡ element_text name attributes inside ++ codes "\n"
