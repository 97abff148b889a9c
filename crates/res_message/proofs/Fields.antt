-- The fields of a word.
use Rattle.std.proofs.Common.{◌≡◌, ℕ, ◌<◌, Bool, true, false, cond, Some, None, arith, refl, sym, ap, ◌∙◌, lit<, ◌&&◌, nat_le, IfSome}
use Rattle.std.specs.Prelude.{◌==◌}
use Rattle.acas_base.specs.Ranges.{IsAddress}
use Rattle.acas_base.specs.declared.advisory.ResMsg.{ResMsg}
use Rattle.acas_base.specs.declared.advisory.Vrc.{Vrc}
use Rattle.acas_base.specs.declared.advisory.Vrc.TheVariants.{Nil, NotBelow, NotAbove}
use Rattle.res_message.specs.Words.{code_of, bit_of, parity_of, Word, word_of, complement_at, message_at, read_word}

pub code-small : (v : Vrc) → code_of v < 3
code-small Nil = lit< tt
code-small NotBelow = lit< tt
code-small NotAbove = lit< tt

pub parity-small : (c v : Vrc) → parity_of c v < 16
parity-small Nil Nil = lit< tt
parity-small Nil NotBelow = lit< tt
parity-small Nil NotAbove = lit< tt
parity-small NotBelow Nil = lit< tt
parity-small NotBelow NotBelow = lit< tt
parity-small NotBelow NotAbove = lit< tt
parity-small NotAbove Nil = lit< tt
parity-small NotAbove NotBelow = lit< tt
parity-small NotAbove NotAbove = lit< tt

pub bit-small : (b : Bool) → bit_of b < 2
bit-small true = lit< tt
bit-small false = lit< tt

-- Each field of a sum of fields.
pub is-word : (m : ResMsg) → IsAddress m.sender → Word m (word_of m)
is-word m a = made (word_of m) (bit-small m.many) (code-small m.cancel) (code-small m.vrc) (parity-small m.cancel m.vrc) refl
  where
    made : (w : ℕ) → bit_of m.many < 2 → code_of m.cancel < 3 → code_of m.vrc < 3 → parity_of m.cancel m.vrc < 16 → w ≡ word_of m → Word m w
    made w hb hc hv hp e = record {
      whole = omega arith;
      uds1 = omega arith;
      uds2 = omega arith;
      spare_41 = omega arith;
      mtb = omega arith;
      cvc = omega arith;
      vrc = omega arith;
      chc = omega arith;
      hrc = omega arith;
      spare_53 = omega arith;
      hsb = omega arith;
      vsb = omega arith;
      mid = omega arith;
      address = a;
    }

-- The word that the fields make up.
pub only-word : (m : ResMsg) (w : ℕ) → Word m w → w ≡ word_of m
only-word m w h = omega (arith, h.whole, h.uds1, h.uds2, h.spare_41, h.mtb, h.cvc, h.vrc, h.chc, h.hrc, h.spare_53, h.hsb, h.vsb, h.mid)

pub bits-same : (a b : Bool) → bit_of a ≡ bit_of b → a ≡ b
bits-same true true e = refl
bits-same false false e = refl
bits-same true false e = absurd (omega arith)
bits-same false true e = absurd (omega arith)

pub same-message : (m n : ResMsg) → m.many ≡ n.many → m.cancel ≡ n.cancel → m.vrc ≡ n.vrc → m.sender ≡ n.sender → m ≡ n
same-message m n a b d e = λ t. record { many = a t; cancel = b t; vrc = d t; sender = e t }

-- What the fields of a message's word tell.
many-at : (b : Bool) → (bit_of b == 1) ≡ b
many-at true = refl
many-at false = refl

complement-told : (v : Vrc) → complement_at (code_of v) ≡ v
complement-told Nil = refl
complement-told NotBelow = refl
complement-told NotAbove = refl

told : (m : ResMsg) (w : ℕ) → Word m w → message_at w ≡ m
told m w h = same-message (message_at w) m (ap (λ (k : ℕ). k == 1) h.mtb ∙ many-at m.many) (ap complement_at h.cvc ∙ complement-told m.cancel) (ap complement_at h.vrc ∙ complement-told m.vrc) h.mid

-- a message is read where it is the one that the fields tell, and its word is this.
abbrev has_word : ℕ → ResMsg → Bool
has_word w m = nat_le 1 m.sender && (nat_le m.sender 16777214 && word_of m == w)

suits : (m : ResMsg) (w : ℕ) → IsAddress m.sender → word_of m ≡ w → has_word w m ≡ true
suits m w a e = grind (arith, a, e)

pub reads : (m : ResMsg) (w : ℕ) → Word m w → read_word w ≡ Some m
reads m w h = ap (λ (n : ResMsg). cond (has_word w n) (Some n) None) (told m w h) ∙ ap (λ (b : Bool). cond b (Some m) None) (suits m w h.address (sym (only-word m w h)))

suited : (w : ℕ) (n : ResMsg) → has_word w n ≡ true → IsAddress n.sender × (word_of n ≡ w)
suited w n e = grind (arith, e)

chosen : (b : Bool) (n : ResMsg) (P : ResMsg → Type 0) → (b ≡ true → P n) → IfSome (cond b (Some n) None) P
chosen true n P f = f refl
chosen false n P f = tt

-- What is read has this word.
pub is-read : (w : ℕ) (P : ResMsg → Type 0) → ((n : ResMsg) → IsAddress n.sender → word_of n ≡ w → P n) → IfSome (read_word w) P
is-read w P f = chosen (has_word w (message_at w)) (message_at w) P (λ e. let s = suited w (message_at w) e in f (message_at w) s.0 s.1)
