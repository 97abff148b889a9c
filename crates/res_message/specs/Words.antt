-- The words of resolution messages: the bits 33 to 88 of the interrogation that carries one, bit 33 the highest (ICAO
-- Annex 10 vol. IV, 4.3; the places of the fields and their parity are this project's profile).
use Rattle.std.specs.Prelude.{◌≡◌, ℕ, ◌+◌, ◌-◌, ◌*◌, ◌/◌, ◌%◌, ◌^◌, ◌<◌, ◌==◌, ◌&&◌, nat_le, Bool, if◌then◌else◌, List, [], ◌∷◌, slice_index, bit_xor, Option, Some, None}
use Rattle.acas_base.specs.Ranges.{IsAddress}
use Rattle.acas_base.specs.declared.advisory.ResMsg.{ResMsg}
use Rattle.acas_base.specs.declared.advisory.Vrc.{Vrc}
use Rattle.acas_base.specs.declared.advisory.Vrc.TheVariants.{Nil, NotBelow, NotAbove}

-- The bits `first` to `last` of a word, as a number.
abbrev pub field : ℕ → ℕ → ℕ → ℕ
field first last word = word / 2 ^ (88 - last) % 2 ^ (last + 1 - first)

abbrev pub code_of : Vrc → ℕ
code_of Nil = 0
code_of NotBelow = 1
code_of NotAbove = 2

abbrev pub bit_of : Bool → ℕ
bit_of many = if many then 1 else 0

-- The parity bits VSB, by CVC (four rows) and VRC (four columns).
abbrev pub parity_cells : List ℕ
parity_cells =
    0x0 ∷ 0xE ∷ 0x7 ∷ 0x9 ∷
    0xB ∷ 0x5 ∷ 0xC ∷ 0x2 ∷
    0xD ∷ 0x3 ∷ 0xA ∷ 0x4 ∷
    0x6 ∷ 0x8 ∷ 0x1 ∷ 0xF ∷ []

abbrev pub parity_of : Vrc → Vrc → ℕ
parity_of cancel vrc = slice_index parity_cells (4 * code_of cancel + code_of vrc)

-- The word of a message, bit by bit.
pub record Word (message : ResMsg) (word : ℕ) : Type 0 where
  pub whole : word < 2 ^ 56
  pub uds1 : field 33 36 word ≡ 3
  pub uds2 : field 37 40 word ≡ 0
  pub spare_41 : field 41 41 word ≡ 0
  pub mtb : field 42 42 word ≡ bit_of message.many
  pub cvc : field 43 44 word ≡ code_of message.cancel
  pub vrc : field 45 46 word ≡ code_of message.vrc
  pub chc : field 47 49 word ≡ 0
  pub hrc : field 50 52 word ≡ 0
  pub spare_53 : field 53 55 word ≡ 0
  pub hsb : field 56 60 word ≡ 0
  pub vsb : field 61 64 word ≡ parity_of message.cancel message.vrc
  pub mid : field 65 88 word ≡ message.sender
  pub address : IsAddress message.sender

-- It is the word of a message.
abbrev pub IsCodeWord : ℕ → Type 0
IsCodeWord word = (message : ResMsg) × Word message word

-- A message's word, as the sum of its fields at their places.
abbrev pub word_of : ResMsg → ℕ
word_of message = 0x30 * 2 ^ 48 + bit_of message.many * 2 ^ 46 + code_of message.cancel * 2 ^ 44 + code_of message.vrc * 2 ^ 42 + parity_of message.cancel message.vrc * 2 ^ 24 + message.sender

-- The complement of a field. A field is at most 3, and 3 is no complement: no message has it.
abbrev pub complement_at : ℕ → Vrc
complement_at code = if code == 0 then Nil else (if code == 1 then NotBelow else NotAbove)

-- The message that a word's fields say.
abbrev pub message_at : ℕ → ResMsg
message_at word = record { many = field 42 42 word == 1; cancel = complement_at (field 43 44 word); vrc = complement_at (field 45 46 word); sender = field 65 88 word }

-- The message of a word: what its fields say, where that message has this word. None where no message has the word.
abbrev pub read_word : ℕ → Option ResMsg
read_word word = let message = message_at word in
    if nat_le 1 message.sender && (nat_le message.sender 16777214 && word_of message == word) then Some message else None

-- The mask's eight bits, highest first, flip the bits 43 to 46 and 61 to 64.
abbrev pub flip_word : ℕ → ℕ → ℕ
flip_word word mask = bit_xor word (mask / 16 * 2 ^ 42 + mask % 16 * 2 ^ 24)

-- The same by fields. The mask's halves are added by exclusive or to the two complements and to the parity. No other
-- bit changes.
pub record IsFlipped (word mask flipped : ℕ) : Type 0 where
  pub complements : field 43 46 flipped ≡ bit_xor (field 43 46 word) (mask / 16)
  pub parity : field 61 64 flipped ≡ bit_xor (field 61 64 word) (mask % 16)
  pub above : flipped / 2 ^ 46 ≡ word / 2 ^ 46
  pub between : field 47 60 flipped ≡ field 47 60 word
  pub below : field 65 88 flipped ≡ field 65 88 word
