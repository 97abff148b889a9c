-- The words of RA report blocks: 56 bits, numbered 33 to 88 from the highest one on. The layout is this project's own.
-- Its model is the register BDS 3,0.
use Rattle.std.specs.Prelude.{◌≡◌, ℕ, ◌+◌, ◌*◌, ◌/◌, ◌%◌, ◌^◌, ◌<◌, ◌==◌, ◌&&◌, nat_le, Bool, if◌then◌else◌, Option, Some, None}
use Rattle.acas_base.specs.Ranges.{IsAddress}
use Rattle.ra_block.specs.declared.block.RaBlock.{RaBlock}
use Rattle.res_message.specs.Words.{bit_of, field}

-- The word of a block, bit by bit.
pub record Word (block : RaBlock) (word : ℕ) : Type 0 where
  pub whole : word < 2 ^ 56
  pub register_first : field 33 36 word ≡ 3
  pub register_second : field 37 40 word ≡ 0
  pub one_threat : field 41 41 word ≡ 1
  pub corrective : field 42 42 word ≡ bit_of block.corrective
  pub downward : field 43 43 word ≡ bit_of block.downward
  pub increased : field 44 44 word ≡ bit_of block.increased
  pub reversal : field 45 45 word ≡ bit_of block.reversal
  pub crossing : field 46 46 word ≡ bit_of block.crossing
  pub positive : field 47 47 word ≡ bit_of block.positive
  pub spare_48 : field 48 54 word ≡ 0
  pub below : field 55 55 word ≡ bit_of block.below
  pub above : field 56 56 word ≡ bit_of block.above
  pub spare_57 : field 57 58 word ≡ 0
  pub ended : field 59 59 word ≡ bit_of block.ended
  pub many_threats : field 60 60 word ≡ 0
  pub threat_type : field 61 62 word ≡ 1
  pub threat : field 63 86 word ≡ block.threat
  pub spare_87 : field 87 88 word ≡ 0
  pub address : IsAddress block.threat

-- It is the word of a block.
abbrev pub IsBlockWord : ℕ → Type 0
IsBlockWord word = (block : RaBlock) × Word block word

-- The same as a sum of the fields at their places.
abbrev pub word_of : RaBlock → ℕ
word_of b =
    3 * 2 ^ 52 + 2 ^ 47 + 2 ^ 26
    + (bit_of b.corrective * 2 ^ 46 + bit_of b.downward * 2 ^ 45 + bit_of b.increased * 2 ^ 44 + bit_of b.reversal * 2 ^ 43 + bit_of b.crossing * 2 ^ 42 + bit_of b.positive * 2 ^ 41)
    + bit_of b.below * 2 ^ 33 + bit_of b.above * 2 ^ 32 + bit_of b.ended * 2 ^ 29 + b.threat * 2 ^ 2

-- Whether a word has a bit. The bit is given by its value.
abbrev pub bit_at : ℕ → ℕ → Bool
bit_at bit word = word / bit % 2 == 1

-- The block that a word's fields say.
abbrev pub block_at : ℕ → RaBlock
block_at word = record {
  corrective = bit_at (2 ^ 46) word;
  downward = bit_at (2 ^ 45) word;
  increased = bit_at (2 ^ 44) word;
  reversal = bit_at (2 ^ 43) word;
  crossing = bit_at (2 ^ 42) word;
  positive = bit_at (2 ^ 41) word;
  below = bit_at (2 ^ 33) word;
  above = bit_at (2 ^ 32) word;
  ended = bit_at (2 ^ 29) word;
  threat = field 63 86 word;
}

-- The block of a word: what its fields say, where that block has this word. None where no block has the word.
abbrev pub read_block : ℕ → Option RaBlock
read_block word = let block = block_at word in
    if nat_le 1 block.threat && (nat_le block.threat 16777214 && word_of block == word) then Some block else None
