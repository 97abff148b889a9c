-- The fields of a block's word.
use Rattle.std.proofs.Common.{◌≡◌, ◌↔◌, ℕ, ◌<◌, Bool, true, false, cond, Option, Some, None, arith, refl, sym, ap, ◌∙◌, subst, ◌&&◌, nat_le}
use Rattle.std.specs.Prelude.{◌==◌}
use Rattle.acas_base.specs.Ranges.{IsAddress}
use Rattle.ra_block.specs.Words.{IsBlockWord, Word, block_at, read_block, word_of}
use Rattle.ra_block.specs.declared.block.RaBlock.{RaBlock}
use Rattle.res_message.proofs.Fields.{bit-small}
use Rattle.res_message.specs.Words.{bit_of}

-- Each field of a sum of fields.
pub is-word : (b : RaBlock) → IsAddress b.threat → Word b (word_of b)
is-word b a = made (word_of b) (bit-small b.corrective) (bit-small b.downward) (bit-small b.increased) (bit-small b.reversal) (bit-small b.crossing) (bit-small b.positive) (bit-small b.below) (bit-small b.above) (bit-small b.ended) refl
  where
    made : (w : ℕ) → bit_of b.corrective < 2 → bit_of b.downward < 2 → bit_of b.increased < 2 → bit_of b.reversal < 2 → bit_of b.crossing < 2 → bit_of b.positive < 2 → bit_of b.below < 2 → bit_of b.above < 2 → bit_of b.ended < 2 →
        w ≡ word_of b → Word b w
    made w h1 h2 h3 h4 h5 h6 h7 h8 h9 e = record {
      whole = omega arith;
      register_first = omega arith;
      register_second = omega arith;
      one_threat = omega arith;
      corrective = omega arith;
      downward = omega arith;
      increased = omega arith;
      reversal = omega arith;
      crossing = omega arith;
      positive = omega arith;
      spare_48 = omega arith;
      below = omega arith;
      above = omega arith;
      spare_57 = omega arith;
      ended = omega arith;
      many_threats = omega arith;
      threat_type = omega arith;
      threat = omega arith;
      spare_87 = omega arith;
      address = a;
    }

-- The word that the fields make up.
pub only-word : (b : RaBlock) (w : ℕ) → Word b w → w ≡ word_of b
only-word b w h = omega (arith, h.whole, h.register_first, h.register_second, h.one_threat, h.corrective, h.downward, h.increased, h.reversal, h.crossing, h.positive, h.spare_48, h.below, h.above, h.spare_57, h.ended, h.many_threats, h.threat_type, h.threat, h.spare_87)

-- What the fields of a block's word tell.
bit-told : (b : Bool) (n : ℕ) → n ≡ bit_of b → (n == 1) ≡ b
bit-told true n e = ap (λ (k : ℕ). k == 1) e
bit-told false n e = ap (λ (k : ℕ). k == 1) e

told : (b : RaBlock) (w : ℕ) → Word b w → block_at w ≡ b
told b w h = λ t. record {
  corrective = bit-told b.corrective _ h.corrective t;
  downward = bit-told b.downward _ h.downward t;
  increased = bit-told b.increased _ h.increased t;
  reversal = bit-told b.reversal _ h.reversal t;
  crossing = bit-told b.crossing _ h.crossing t;
  positive = bit-told b.positive _ h.positive t;
  below = bit-told b.below _ h.below t;
  above = bit-told b.above _ h.above t;
  ended = bit-told b.ended _ h.ended t;
  threat = h.threat t;
}

-- a block is read where it is the one that the fields tell, and its word is this.
abbrev has_word : ℕ → RaBlock → Bool
has_word w b = nat_le 1 b.threat && (nat_le b.threat 16777214 && word_of b == w)

suits : (n word w : ℕ) → IsAddress n → word ≡ w → nat_le 1 n && (nat_le n 16777214 && word == w) ≡ true
suits n word w a e = grind (arith, a, e)

suited : (n word w : ℕ) → nat_le 1 n && (nat_le n 16777214 && word == w) ≡ true → IsAddress n × (word ≡ w)
suited n word w e = grind (arith, e)

pub reads : (b : RaBlock) (w : ℕ) → Word b w → read_block w ≡ Some b
reads b w h = ap (λ (n : RaBlock). cond (has_word w n) (Some n) None) (told b w h) ∙ ap (λ (t : Bool). cond t (Some b) None) (suits b.threat (word_of b) w h.address (sym (only-word b w h)))

chosen : (t : Bool) (n b : RaBlock) → cond t (Some n) None ≡ Some b → (t ≡ true) × (n ≡ b)
chosen true n b e = (refl, cc)
chosen false n b e = absurd (cc)

-- What is read has this word.
pub is-read : (w : ℕ) (b : RaBlock) → read_block w ≡ Some b → Word b w
is-read w b e =
    let c = chosen (has_word w (block_at w)) (block_at w) b e in
    let s = suited (block_at w).threat (word_of (block_at w)) w c.0 in
    subst (λ (n : RaBlock). Word n w) c.1 (subst (λ (v : ℕ). Word (block_at w) v) s.1 (is-word (block_at w) s.0))

pub read-none : (w : ℕ) → (read_block w ≡ None) ↔ ¬ IsBlockWord w
read-none w = (λ e is. let some = reads is.0 w is.1 in absurd (cc), λ none. go (read_block w) refl none)
  where
    go : (o : Option RaBlock) → read_block w ≡ o → ¬ IsBlockWord w → o ≡ None
    go None e none = refl
    go (Some b) e none = absurd (none (b, is-read w b e))
