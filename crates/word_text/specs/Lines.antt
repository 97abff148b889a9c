-- What a word of 56 bits says, as lines: one that tells how it was read, and one for each field, in the order of their bits.
use Rattle.std.specs.Prelude.{ℕ, ◌==◌, Bool, if◌then◌else◌, List, [], ◌∷◌, Option, None, Some, codes}
use Rattle.acas_base.specs.declared.advisory.ResMsg.{ResMsg}
use Rattle.acas_base.specs.declared.advisory.Vrc.{Vrc}
use Rattle.acas_base.specs.declared.advisory.Vrc.TheVariants.{Nil, NotBelow, NotAbove}
use Rattle.acas_lines.specs.Lines.{count_line, joined, line_of}
use Rattle.acas_text.specs.Hex.{hex}
use Rattle.ra_block.specs.Words.{read_block}
use Rattle.ra_block.specs.declared.block.RaBlock.{RaBlock}
use Rattle.res_message.specs.Words.{bit_of, field, read_word}

-- A field and its value.
abbrev pub field_line : List ℕ → List ℕ → List ℕ
field_line name value = line_of (name ∷ value ∷ [])

-- A field of one bit, `1` or `0`.
abbrev pub mark_line : List ℕ → Bool → List ℕ
mark_line name holds = count_line name (bit_of holds)

-- "Do not pass below" is `below`, "do not pass above" is `above`.
abbrev pub complement_text : Vrc → List ℕ
complement_text Nil = codes "nothing"
complement_text NotBelow = codes "below"
complement_text NotAbove = codes "above"

abbrev pub block_lines : RaBlock → List (List ℕ)
block_lines b =
    mark_line (codes "corrective") b.corrective
    ∷ mark_line (codes "down") b.downward
    ∷ mark_line (codes "increase") b.increased
    ∷ mark_line (codes "reversal") b.reversal
    ∷ mark_line (codes "crossing") b.crossing
    ∷ mark_line (codes "positive") b.positive
    ∷ mark_line (codes "below") b.below
    ∷ mark_line (codes "above") b.above
    ∷ mark_line (codes "ended") b.ended
    ∷ field_line (codes "threat") (hex 6 b.threat)
    ∷ []

-- The parity of a message stands in its word alone.
abbrev pub message_lines : ℕ → ResMsg → List (List ℕ)
message_lines word m =
    mark_line (codes "many_threats") m.many
    ∷ field_line (codes "cancels") (complement_text m.cancel)
    ∷ field_line (codes "sets") (complement_text m.vrc)
    ∷ field_line (codes "parity") (hex 1 (field 61 64 word))
    ∷ field_line (codes "sender") (hex 6 m.sender)
    ∷ []

-- The fields of what was read; or that there is none, since nothing has this word.
abbrev pub lines_or_none : {T : Type 0} → (T → List (List ℕ)) → Option T → List (List ℕ)
lines_or_none lines None = codes "none\n" ∷ []
lines_or_none lines (Some it) = lines it

abbrev pub lines_as_block : ℕ → List (List ℕ)
lines_as_block word = lines_or_none block_lines (read_block word)

abbrev pub lines_as_message : ℕ → List (List ℕ)
lines_as_message word = lines_or_none (message_lines word) (read_word word)

-- Bit 41 is 1 in every word of a block, and 0 in every word of a message.
abbrev pub is_block : ℕ → Bool
is_block word = field 41 41 word == 1

abbrev pub word_lines : ℕ → List (List ℕ)
word_lines word = if is_block word then codes "word,block\n" ∷ lines_as_block word else codes "word,message\n" ∷ lines_as_message word

abbrev pub word_text : ℕ → List ℕ
word_text word = joined (word_lines word)
