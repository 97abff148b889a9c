-- The two parts of a word, before its first `=` and after it.
use Rattle.std.specs.Prelude.{ℕ, ◌+◌, ◌==◌, Bool, ◌&&◌, ◌||◌, nat_le, List, [], drop, length, take, is_some, Option, Some, None}
use Rattle.std.specs.List.{list_all}
use Rattle.enc_file.specs.Values.{address_in, count_in}
use Rattle.labels.specs.Clock.{clock_in}
use Rattle.memchr.specs.Find.{first_of, is_byte, places}

-- Where the first `=` stands.
unfoldable pub equals_in : List ℕ → Option ℕ
equals_in word = first_of (places (is_byte 61) word)

-- There is one.
abbrev pub has_equals : List ℕ → Bool
has_equals word = is_some (equals_in word)

-- What stands before it, or all where there is none.
abbrev pub front : Option ℕ → List ℕ → List ℕ
front None word = word
front (Some at) word = take at word

abbrev pub key_of : List ℕ → List ℕ
key_of word = front (equals_in word) word

-- What stands after it.
abbrev pub behind : Option ℕ → List ℕ → List ℕ
behind None word = []
behind (Some at) word = drop (at + 1) word

abbrev pub value_of : List ℕ → List ℕ
value_of word = behind (equals_in word) word

-- A name has 1 to 8 of A-Z, 0-9 and `-`.
abbrev pub is_name_letter : ℕ → Bool
is_name_letter byte = (nat_le 65 byte && nat_le byte 90) || ((nat_le 48 byte && nat_le byte 57) || byte == 45)

-- It has from 1 to so many bytes.
abbrev pub is_sized : ℕ → List ℕ → Bool
is_sized most text = nat_le 1 (length text) && nat_le (length text) most

unfoldable pub is_name : List ℕ → Bool
is_name text = is_sized 8 text && list_all is_name_letter text

-- The text of a mark has 1 to 60 bytes from 32 to 126.
abbrev pub is_text_letter : ℕ → Bool
is_text_letter byte = nat_le 32 byte && nat_le byte 126

unfoldable pub is_text : List ℕ → Bool
is_text text = is_sized 60 text && list_all is_text_letter text

-- A word ADDRESS=NAME.
unfoldable pub is_name_word : List ℕ → Bool
is_name_word word = has_equals word && (is_some (address_in (key_of word)) && is_name (value_of word))

-- The key of a mark is a cycle from 1 to 600, or a time of day where there is a clock.
unfoldable pub is_mark_key : Option ℕ → List ℕ → Bool
is_mark_key start key = is_some (count_in 1 600 key) || (is_some start && is_some (clock_in key))

-- A word CYCLE=TEXT or hh:mm:ss=TEXT.
unfoldable pub is_mark_word : Option ℕ → List ℕ → Bool
is_mark_word start word = has_equals word && (is_mark_key start (key_of word) && is_text (value_of word))
