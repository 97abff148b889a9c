-- What an encounter and its aircraft are called.
use Rattle.std.specs.Prelude.{ℕ, ◌==◌, Bool, not, ◌&&◌, ◌||◌, nat_le, List, length}
use Rattle.std.specs.List.{list_all}

-- From 1 to so many bytes.
abbrev pub is_sized : ℕ → List ℕ → Bool
is_sized most text = nat_le 1 (length text) && nat_le (length text) most

abbrev pub is_text_letter : ℕ → Bool
is_text_letter byte = nat_le 32 byte && nat_le byte 126

-- A comma would begin one field more.
abbrev pub is_label_letter : ℕ → Bool
is_label_letter byte = is_text_letter byte && not (byte == 44)

-- A label has 1 to 60 bytes from 32 to 126, none of them a comma.
unfoldable pub is_label : List ℕ → Bool
is_label text = is_sized 60 text && list_all is_label_letter text

abbrev pub is_name_letter : ℕ → Bool
is_name_letter byte = (nat_le 65 byte && nat_le byte 90) || ((nat_le 48 byte && nat_le byte 57) || byte == 45)

-- A name has 1 to 8 of A-Z, 0-9 and `-`.
unfoldable pub is_name : List ℕ → Bool
is_name text = is_sized 8 text && list_all is_name_letter text

abbrev pub is_hexadecimal : ℕ → Bool
is_hexadecimal byte = (nat_le 48 byte && nat_le byte 57) || (nat_le 65 byte && nat_le byte 70)

-- A call sign is a name, and not the six digits of an address.
unfoldable pub is_call_sign : List ℕ → Bool
is_call_sign text = is_name text && not (length text == 6 && list_all is_hexadecimal text)
