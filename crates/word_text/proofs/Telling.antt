-- How a word is read, by bit 41.
use Rattle.std.proofs.Common.{◌≡◌, ℕ, ◌==◌, Bool, true, false, cond, List, [], ◌∷◌, ◌⊎◌, inl, inr, Option, None, Some, codes, IfSome, refl, ap, ◌∙◌, subst}
use Rattle.acas_base.specs.declared.advisory.ResMsg.{ResMsg}
use Rattle.ra_block.proofs.Fields.{read-none, reads as reads-block}
use Rattle.ra_block.specs.Words.{IsBlockWord, Word as IsWordOfBlock}
use Rattle.ra_block.specs.declared.block.RaBlock.{RaBlock}
use Rattle.res_message.proofs.Fields.{is-read, is-word, reads as reads-message}
use Rattle.res_message.specs.Words.{IsCodeWord, Word as IsWordOfMessage, read_word}
use Rattle.word_text.specs.Lines.{block_lines, is_block, lines_as_block, lines_as_message, lines_or_none, message_lines, word_lines}

-- The lines of a word, by whether it is read as a block.
abbrev pub lines_if : ℕ → Bool → List (List ℕ)
lines_if word block = cond block (codes "word,block\n" ∷ lines_as_block word) (codes "word,message\n" ∷ lines_as_message word)

-- The lines of a word, by what is read.
abbrev pub as_block : Option RaBlock → List (List ℕ)
as_block read = codes "word,block\n" ∷ lines_or_none block_lines read

abbrev pub as_message : ℕ → Option ResMsg → List (List ℕ)
as_message word read = codes "word,message\n" ∷ lines_or_none (message_lines word) read

pub block-told : (b : RaBlock) (word : ℕ) → IsWordOfBlock b word → word_lines word ≡ codes "word,block\n" ∷ block_lines b
block-told b word h = ap (lines_if word) (ap (λ (bit : ℕ). bit == 1) h.one_threat) ∙ ap as_block (reads-block b word h)

pub message-told : (m : ResMsg) (word : ℕ) → IsWordOfMessage m word → word_lines word ≡ codes "word,message\n" ∷ message_lines word m
message-told m word h = ap (lines_if word) (ap (λ (bit : ℕ). bit == 1) h.spare_41) ∙ ap (as_message word) (reads-message m word h)

-- What is read as a message has its word.
pub read-message : (word : ℕ) → IfSome (read_word word) (λ m. IsWordOfMessage m word)
read-message word = is-read word (λ m. IsWordOfMessage m word) (λ m a e. subst (IsWordOfMessage m) e (is-word m a))

no-message : (word : ℕ) → ¬ IsCodeWord word → read_word word ≡ None
no-message word none = go (read_word word) (read-message word)
  where
    go : (read : Option ResMsg) → IfSome read (λ m. IsWordOfMessage m word) → read ≡ None
    go None h = refl
    go (Some m) h = absurd (none (m, h))

pub none-told : (word : ℕ) → ¬ IsBlockWord word → ¬ IsCodeWord word → (word_lines word ≡ codes "word,block\n" ∷ codes "none\n" ∷ []) ⊎ (word_lines word ≡ codes "word,message\n" ∷ codes "none\n" ∷ [])
none-told word block message = go (is_block word) refl
  where
    go : (is : Bool) → is_block word ≡ is → (word_lines word ≡ codes "word,block\n" ∷ codes "none\n" ∷ []) ⊎ (word_lines word ≡ codes "word,message\n" ∷ codes "none\n" ∷ [])
    go true e = inl (ap (lines_if word) e ∙ ap as_block ((read-none word).1 block))
    go false e = inr (ap (lines_if word) e ∙ ap (as_message word) (no-message word message))
