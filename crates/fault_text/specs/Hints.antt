-- What is slightly wrong with a number or an address, as far as a user tells it apart.
use Rattle.std.specs.Prelude.{ℕ, ◌==◌, ◌&&◌, ◌||◌, not, nat_le, if◌then◌else◌, Bool, false, List, [], ◌∷◌, codes}
use Rattle.std.specs.List.{list_all, list_any}
use Rattle.std.specs.Str.{bytes_eq}

abbrev pub is_digit : ℕ → Bool
is_digit c = nat_le 48 c && nat_le c 57

-- Each byte is a digit or one of the others.
abbrev pub is_among : List ℕ → ℕ → Bool
is_among others c = is_digit c || list_any (λ d. d == c) others

abbrev pub are_among : List ℕ → List ℕ → Bool
are_among others found = list_all (is_among others) found

abbrev pub has_digit : List ℕ → Bool
has_digit found = list_any is_digit found

-- Digits without a zero in front.
abbrev pub is_counting : List ℕ → Bool
is_counting [] = false
is_counting (c ∷ cs) = not (c == 48) && are_among [] (c ∷ cs)

-- A plain decimal of any length.
abbrev pub is_plain_number : List ℕ → Bool
is_plain_number [] = false
is_plain_number (c ∷ cs) = if c == 45 then is_counting cs else is_counting (c ∷ cs) || bytes_eq (c ∷ cs) (codes "0")

-- There is a digit, and else only spaces and signs, and it is no plain decimal.
abbrev pub is_padded : List ℕ → Bool
is_padded found = has_digit found && (are_among (codes " +-") found && not (is_plain_number found))

-- There is a digit and a point, and else only digits, points and signs.
abbrev pub is_pointed : List ℕ → Bool
is_pointed found = has_digit found && (are_among (codes "-.") found && not (are_among (codes "-") found))

abbrev pub number_hint : List ℕ → List ℕ
number_hint found =
    if is_padded found then codes ", without a space, a sign or a zero too many" else
    if is_pointed found then codes ", without a point" else []

-- A letter a-f.
abbrev pub is_small : ℕ → Bool
is_small c = nat_le 97 c && nat_le c 102

abbrev pub is_reserved : List ℕ → Bool
is_reserved found = bytes_eq found (codes "000000") || bytes_eq found (codes "FFFFFF")

abbrev pub address_hint : List ℕ → List ℕ
address_hint found =
    if list_any is_small found then codes ", and no small letters" else
    if is_reserved found then codes ", and neither 000000 nor FFFFFF" else []
