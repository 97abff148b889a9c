-- Labels, and the words that say them.
use Rattle.std.specs.Prelude.{◌≡◌, ℕ, ◌+◌, ◌-◌, ◌%◌, ◌≤◌, ◌<◌, Bool, true, false, not, ◌&&◌, ◌||◌, if◌then◌else◌, nat_le, List, [], ◌∷◌, drop, take, length, is_some, Option, Some, None}
use Rattle.std.specs.Option.{ForSome}
use Rattle.std.specs.Str.{bytes_eq}
use Rattle.acas_text.specs.Hex.{hex}
use Rattle.enc_file.specs.Values.{count_in}
use Rattle.labels.specs.Clock.{clock_in}
use Rattle.labels.specs.Parts.{is_mark_word, is_name_word, key_of, value_of}

-- The second of the day in which cycle 1 is, where there is a clock; the words that give names; and the words of marks.
pub record LabelWords : Type 0 where
  pub start : Option ℕ
  pub names : List (List ℕ)
  pub marks : List (List ℕ)

-- ---- which words they are

-- The clock, where the first word is a time of day.
abbrev pub start_in : List (List ℕ) → Option ℕ
start_in [] = None
start_in (word ∷ words) = clock_in word

-- The words after it.
abbrev pub after_start : List (List ℕ) → List (List ℕ)
after_start [] = []
after_start (word ∷ words) = if is_some (clock_in word) then words else word ∷ words

-- How many words give names, from the first one on.
abbrev pub name_count : List (List ℕ) → ℕ
name_count [] = 0
name_count (word ∷ words) = if is_name_word word then name_count words + 1 else 0

-- Some word has this key.
abbrev pub is_keyed : List (List ℕ) → List ℕ → Bool
is_keyed [] key = false
is_keyed (word ∷ words) key = bytes_eq (key_of word) key || is_keyed words key

-- No two words have one key.
abbrev pub are_apart : List (List ℕ) → Bool
are_apart [] = true
are_apart (word ∷ words) = not (is_keyed words (key_of word)) && are_apart words

-- All words are marks.
abbrev pub are_marks : Option ℕ → List (List ℕ) → Bool
are_marks start [] = true
are_marks start (word ∷ words) = is_mark_word start word && are_marks start words

-- All words are names.
abbrev pub are_names : List (List ℕ) → Bool
are_names [] = true
are_names (word ∷ words) = is_name_word word && are_names words

-- No two names have one address, all words after the names are marks, and there are at most 26 of these.
abbrev pub are_checked : Option ℕ → List (List ℕ) → List (List ℕ) → Bool
are_checked start names marks = are_apart names && (are_marks start marks && nat_le (length marks) 26)

abbrev pub checked : Option ℕ → List (List ℕ) → List (List ℕ) → Option LabelWords
checked start names marks = if are_checked start names marks then Some (record { start = start; names = names; marks = marks }) else None

-- The words after the clock: names, as many as there are, and then marks.
abbrev pub parted : Option ℕ → List (List ℕ) → Option LabelWords
parted start words = checked start (take (name_count words) words) (drop (name_count words) words)

-- The labels that words say: first the clock, if any, then names, then at most 26 marks. Each address has one name.
-- None where the words have another form. There may be 256 words.
unfoldable pub labels_in : List (List ℕ) → Option LabelWords
labels_in words = if nat_le (length words) 256 then parted (start_in words) (after_start words) else None

-- ---- what they say

abbrev pub no_labels : LabelWords
no_labels = record { start = None; names = []; marks = [] }

-- The value of the first word with a key.
abbrev pub value_with : List (List ℕ) → List ℕ → Option (List ℕ)
value_with [] key = None
value_with (word ∷ words) key = if bytes_eq (key_of word) key then Some (value_of word) else value_with words key

abbrev pub or_else : Option (List ℕ) → List ℕ → List ℕ
or_else None other = other
or_else (Some value) other = value

-- What an aircraft is called: its name, or its address where it has none.
unfoldable pub name_of : LabelWords → ℕ → List ℕ
name_of it address = or_else (value_with it.names (hex 6 address)) (hex 6 address)

-- The cycle that a time of day is in. A clock runs past midnight.
abbrev pub cycle_at : ℕ → ℕ → ℕ
cycle_at start second = (second + 86400 - start) % 86400 + 1

abbrev pub cycle_by_clock : Option ℕ → Option ℕ → ℕ
cycle_by_clock (Some start) (Some second) = cycle_at start second
cycle_by_clock (Some start) None = 0
cycle_by_clock None second = 0

abbrev pub cycle_by : Option ℕ → Option ℕ → Option ℕ → ℕ
cycle_by (Some cycle) start second = cycle
cycle_by None start second = cycle_by_clock start second

-- The cycle of a mark.
unfoldable pub cycle_of : Option ℕ → List ℕ → ℕ
cycle_of start word = cycle_by (count_in 1 600 (key_of word)) start (clock_in (key_of word))

-- What is known of labels.
pub record AreLabels (it : LabelWords) : Type 0 where
  pub day : ForSome it.start (λ second. second < 86400)
  pub named : are_names it.names ≡ true
  pub marked : are_marks it.start it.marks ≡ true
  pub few : length it.marks ≤ 26
