-- No two words of blocks or messages are told alike.
use Rattle.std.proofs.Common.{◌≡◌, ℕ, Bool, true, false, List, [], ◌∷◌, ◌⊎◌, inl, inr, Option, None, Some, IfSome, codes, length, get_or, drop, cond, refl, sym, ap, ◌∙◌, subst, arith}
use Rattle.std.proofs.lemmas.Fmt.{decimal_injective}
use Rattle.std.proofs.lemmas.List.{append_cancel_left, append_cancel_right}
use Rattle.std.specs.Prelude.{◌==◌}
use Rattle.std.specs.Fmt.{decimal}
use Rattle.std.specs.List.{join_with_byte}
use Rattle.std.specs.Str.Parse.{digits_value}
use Rattle.acas_base.specs.Ranges.{IsAddress}
use Rattle.acas_base.specs.declared.advisory.ResMsg.{ResMsg}
use Rattle.acas_base.specs.declared.advisory.Vrc.{Vrc}
use Rattle.acas_base.specs.declared.advisory.Vrc.TheVariants.{Nil, NotBelow, NotAbove}
use Rattle.acas_text.proofs.Digits.{digits-value-hex}
use Rattle.acas_text.specs.Hex.{hex}
use Rattle.ra_block.proofs.Fields as blocks
use Rattle.ra_block.specs.Words.{IsBlockWord, Word as IsWordOfBlock, read_block, word_of as word_of_block}
use Rattle.ra_block.specs.declared.block.RaBlock.{RaBlock}
use Rattle.res_message.proofs.Fields.{bit-small, bits-same, same-message}
use Rattle.res_message.proofs.Fields as messages
use Rattle.res_message.specs.Words.{IsCodeWord, Word as IsWordOfMessage, bit_of, read_word, word_of as word_of_message}
use Rattle.word_text.proofs.Telling.{as_block, as_message, block-told, lines_if, message-told, read-message}
use Rattle.word_text.specs.Lines.{block_lines, complement_text, field_line, is_block, mark_line, message_lines, word_lines}

-- A line tells its value.
value-same : (name a b : List ℕ) → field_line name a ≡ field_line name b → a ≡ b
value-same name a b e =
    let fields = append_cancel_right (join_with_byte 44 (name ∷ a ∷ [])) (join_with_byte 44 (name ∷ b ∷ [])) (10 ∷ []) e in
    ap (drop 1) (append_cancel_left name (44 ∷ a) (44 ∷ b) fields)

mark-same : (name : List ℕ) (a b : Bool) → mark_line name a ≡ mark_line name b → a ≡ b
mark-same name a b e = bits-same a b (decimal_injective (bit_of a) (bit_of b) (omega (arith, bit-small a)) (omega (arith, bit-small b)) (value-same name (decimal (bit_of a)) (decimal (bit_of b)) e))

address-same : (name : List ℕ) (a b : ℕ) → IsAddress a → IsAddress b → field_line name (hex 6 a) ≡ field_line name (hex 6 b) → a ≡ b
address-same name a b h k e = sym (digits-value-hex 6 a (omega (arith, h.1))) ∙ ap (digits_value 16) (value-same name (hex 6 a) (hex 6 b) e) ∙ digits-value-hex 6 b (omega (arith, k.1))

-- The complement of a text.
abbrev complement_from : List ℕ → Vrc
complement_from text = cond (get_or text 0 0 == 110) Nil (cond (get_or text 0 0 == 98) NotBelow NotAbove)

complement-back : (v : Vrc) → complement_from (complement_text v) ≡ v
complement-back Nil = refl
complement-back NotBelow = refl
complement-back NotAbove = refl

complement-same : (name : List ℕ) (a b : Vrc) → field_line name (complement_text a) ≡ field_line name (complement_text b) → a ≡ b
complement-same name a b e = sym (complement-back a) ∙ ap complement_from (value-same name (complement_text a) (complement_text b) e) ∙ complement-back b

-- A line by its place.
abbrev at : ℕ → List (List ℕ) → List ℕ
at place lines = get_or lines place []

block-same : (a b : RaBlock) → IsAddress a.threat → IsAddress b.threat → block_lines a ≡ block_lines b → a ≡ b
block-same a b h k e =
    let corrective = mark-same (codes "corrective") a.corrective b.corrective (ap (at 0) e) in
    let downward = mark-same (codes "down") a.downward b.downward (ap (at 1) e) in
    let increased = mark-same (codes "increase") a.increased b.increased (ap (at 2) e) in
    let reversal = mark-same (codes "reversal") a.reversal b.reversal (ap (at 3) e) in
    let crossing = mark-same (codes "crossing") a.crossing b.crossing (ap (at 4) e) in
    let positive = mark-same (codes "positive") a.positive b.positive (ap (at 5) e) in
    let below = mark-same (codes "below") a.below b.below (ap (at 6) e) in
    let above = mark-same (codes "above") a.above b.above (ap (at 7) e) in
    let ended = mark-same (codes "ended") a.ended b.ended (ap (at 8) e) in
    let threat = address-same (codes "threat") a.threat b.threat h k (ap (at 9) e) in
    λ t. record {
      corrective = corrective t;
      downward = downward t;
      increased = increased t;
      reversal = reversal t;
      crossing = crossing t;
      positive = positive t;
      below = below t;
      above = above t;
      ended = ended t;
      threat = threat t;
    }

message-same : (v w : ℕ) (m n : ResMsg) → IsAddress m.sender → IsAddress n.sender → message_lines v m ≡ message_lines w n → m ≡ n
message-same v w m n h k e =
    same-message m n (mark-same (codes "many_threats") m.many n.many (ap (at 0) e)) (complement-same (codes "cancels") m.cancel n.cancel (ap (at 1) e)) (complement-same (codes "sets") m.vrc n.vrc (ap (at 2) e))
    (address-same (codes "sender") m.sender n.sender h k (ap (at 4) e))

-- Two words that are told as one block, or as one message.
block-words : (v w : ℕ) (a : RaBlock) (read : Option RaBlock) → IsWordOfBlock a v → read_block w ≡ read → as_block read ≡ codes "word,block\n" ∷ block_lines a → v ≡ w
block-words v w a None h is e = absurd (omega (arith, ap length e))
block-words v w a (Some b) h is e =
    let k = blocks.is-read w b is in
    let same = block-same b a k.address h.address (ap (drop 1) e) in
    blocks.only-word a v h ∙ ap word_of_block (sym same) ∙ sym (blocks.only-word b w k)

message-words : (v w : ℕ) (m : ResMsg) (read : Option ResMsg) → IsWordOfMessage m v → read_word w ≡ read → as_message w read ≡ codes "word,message\n" ∷ message_lines v m → v ≡ w
message-words v w m None h is e = absurd (omega (arith, ap length e))
message-words v w m (Some n) h is e =
    let k : IsWordOfMessage n w = subst (λ (read : Option ResMsg). IfSome read (λ o. IsWordOfMessage o w)) is (read-message w) in
    let same = message-same w v n m k.address h.address (ap (drop 1) e) in
    messages.only-word m v h ∙ ap word_of_message (sym same) ∙ sym (messages.only-word n w k)

told-block : (v w : ℕ) (a : RaBlock) (is : Bool) → IsWordOfBlock a v → is_block w ≡ is → word_lines w ≡ codes "word,block\n" ∷ block_lines a → v ≡ w
told-block v w a true h is e = block-words v w a (read_block w) h refl (sym (ap (lines_if w) is) ∙ e)
told-block v w a false h is e = absurd (omega (arith, ap (λ (lines : List (List ℕ)). length (at 0 lines)) (sym (ap (lines_if w) is) ∙ e)))

told-message : (v w : ℕ) (m : ResMsg) (is : Bool) → IsWordOfMessage m v → is_block w ≡ is → word_lines w ≡ codes "word,message\n" ∷ message_lines v m → v ≡ w
told-message v w m true h is e = absurd (omega (arith, ap (λ (lines : List (List ℕ)). length (at 0 lines)) (sym (ap (lines_if w) is) ∙ e)))
told-message v w m false h is e = message-words v w m (read_word w) h refl (sym (ap (lines_if w) is) ∙ e)

pub same-word : (v w : ℕ) → IsBlockWord v ⊎ IsCodeWord v → word_lines v ≡ word_lines w → v ≡ w
same-word v w (inl is) e = told-block v w is.0 (is_block w) is.1 refl (sym e ∙ block-told is.0 v is.1)
same-word v w (inr is) e = told-message v w is.0 (is_block w) is.1 refl (sym e ∙ message-told is.0 v is.1)
