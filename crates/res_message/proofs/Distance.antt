-- Any two of the nine codes differ in four bits at least.
use Rattle.std.proofs.Common.{◌≡◌, ℕ, ◌+◌, ◌*◌, ◌/◌, ◌%◌, ◌^◌, ◌<◌, ◌≤◌, leb, lit<, bit_xor, count_ones, sym, refl, ap, ap₂, ◌∙◌, subst, arith, T, leb→le}
use Rattle.std.proofs.lemmas.Nat.{xor_lt}
use Rattle.std.specs.Int.Bits.{xor_self, xor_zero_l, xor_assoc}
use Rattle.std.specs.Int.Count.{ones}
use Rattle.acas_base.specs.Ranges.{IsAddress}
use Rattle.acas_base.specs.declared.advisory.ResMsg.{ResMsg}
use Rattle.acas_base.specs.declared.advisory.Vrc.{Vrc}
use Rattle.acas_base.specs.declared.advisory.Vrc.TheVariants.{Nil, NotBelow, NotAbove}
use Rattle.res_message.specs.Words.{code_of, parity_of, bit_of, word_of, flip_word, Word, IsCodeWord}
use Rattle.res_message.proofs.Flips.{blocks, flip-blocks}
use Rattle.res_message.proofs.Fields.{code-small, parity-small, bits-same, same-message, only-word}

nib : ResMsg → ℕ
nib m = code_of m.cancel * 4 + code_of m.vrc

-- a mask from its halves.
differ : (a b x : ℕ) → bit_xor a x ≡ b → x ≡ bit_xor a b
differ a b x e = sym (ap (bit_xor a) (sym e) ∙ sym (xor_assoc a a x) ∙ ap (λ k. bit_xor k x) (xor_self a) ∙ xor_zero_l x)

too-many : (n : ℕ) → T (leb 4 n) → n ≤ 3 → ⊥
too-many n t h = let g : 4 ≤ n = leb→le 4 n t in omega arith

apart : (c v d w : Vrc) → count_ones (bit_xor (code_of c * 4 + code_of v) (code_of d * 4 + code_of w) * 16 + bit_xor (parity_of c v) (parity_of d w)) ≤ 3 → (c ≡ d) × (v ≡ w)
unfolding ones
apart Nil Nil Nil Nil h = (refl, refl)
apart Nil Nil Nil NotBelow h = absurd (too-many _ tt h)
apart Nil Nil Nil NotAbove h = absurd (too-many _ tt h)
apart Nil Nil NotBelow Nil h = absurd (too-many _ tt h)
apart Nil Nil NotBelow NotBelow h = absurd (too-many _ tt h)
apart Nil Nil NotBelow NotAbove h = absurd (too-many _ tt h)
apart Nil Nil NotAbove Nil h = absurd (too-many _ tt h)
apart Nil Nil NotAbove NotBelow h = absurd (too-many _ tt h)
apart Nil Nil NotAbove NotAbove h = absurd (too-many _ tt h)
apart Nil NotBelow Nil Nil h = absurd (too-many _ tt h)
apart Nil NotBelow Nil NotBelow h = (refl, refl)
apart Nil NotBelow Nil NotAbove h = absurd (too-many _ tt h)
apart Nil NotBelow NotBelow Nil h = absurd (too-many _ tt h)
apart Nil NotBelow NotBelow NotBelow h = absurd (too-many _ tt h)
apart Nil NotBelow NotBelow NotAbove h = absurd (too-many _ tt h)
apart Nil NotBelow NotAbove Nil h = absurd (too-many _ tt h)
apart Nil NotBelow NotAbove NotBelow h = absurd (too-many _ tt h)
apart Nil NotBelow NotAbove NotAbove h = absurd (too-many _ tt h)
apart Nil NotAbove Nil Nil h = absurd (too-many _ tt h)
apart Nil NotAbove Nil NotBelow h = absurd (too-many _ tt h)
apart Nil NotAbove Nil NotAbove h = (refl, refl)
apart Nil NotAbove NotBelow Nil h = absurd (too-many _ tt h)
apart Nil NotAbove NotBelow NotBelow h = absurd (too-many _ tt h)
apart Nil NotAbove NotBelow NotAbove h = absurd (too-many _ tt h)
apart Nil NotAbove NotAbove Nil h = absurd (too-many _ tt h)
apart Nil NotAbove NotAbove NotBelow h = absurd (too-many _ tt h)
apart Nil NotAbove NotAbove NotAbove h = absurd (too-many _ tt h)
apart NotBelow Nil Nil Nil h = absurd (too-many _ tt h)
apart NotBelow Nil Nil NotBelow h = absurd (too-many _ tt h)
apart NotBelow Nil Nil NotAbove h = absurd (too-many _ tt h)
apart NotBelow Nil NotBelow Nil h = (refl, refl)
apart NotBelow Nil NotBelow NotBelow h = absurd (too-many _ tt h)
apart NotBelow Nil NotBelow NotAbove h = absurd (too-many _ tt h)
apart NotBelow Nil NotAbove Nil h = absurd (too-many _ tt h)
apart NotBelow Nil NotAbove NotBelow h = absurd (too-many _ tt h)
apart NotBelow Nil NotAbove NotAbove h = absurd (too-many _ tt h)
apart NotBelow NotBelow Nil Nil h = absurd (too-many _ tt h)
apart NotBelow NotBelow Nil NotBelow h = absurd (too-many _ tt h)
apart NotBelow NotBelow Nil NotAbove h = absurd (too-many _ tt h)
apart NotBelow NotBelow NotBelow Nil h = absurd (too-many _ tt h)
apart NotBelow NotBelow NotBelow NotBelow h = (refl, refl)
apart NotBelow NotBelow NotBelow NotAbove h = absurd (too-many _ tt h)
apart NotBelow NotBelow NotAbove Nil h = absurd (too-many _ tt h)
apart NotBelow NotBelow NotAbove NotBelow h = absurd (too-many _ tt h)
apart NotBelow NotBelow NotAbove NotAbove h = absurd (too-many _ tt h)
apart NotBelow NotAbove Nil Nil h = absurd (too-many _ tt h)
apart NotBelow NotAbove Nil NotBelow h = absurd (too-many _ tt h)
apart NotBelow NotAbove Nil NotAbove h = absurd (too-many _ tt h)
apart NotBelow NotAbove NotBelow Nil h = absurd (too-many _ tt h)
apart NotBelow NotAbove NotBelow NotBelow h = absurd (too-many _ tt h)
apart NotBelow NotAbove NotBelow NotAbove h = (refl, refl)
apart NotBelow NotAbove NotAbove Nil h = absurd (too-many _ tt h)
apart NotBelow NotAbove NotAbove NotBelow h = absurd (too-many _ tt h)
apart NotBelow NotAbove NotAbove NotAbove h = absurd (too-many _ tt h)
apart NotAbove Nil Nil Nil h = absurd (too-many _ tt h)
apart NotAbove Nil Nil NotBelow h = absurd (too-many _ tt h)
apart NotAbove Nil Nil NotAbove h = absurd (too-many _ tt h)
apart NotAbove Nil NotBelow Nil h = absurd (too-many _ tt h)
apart NotAbove Nil NotBelow NotBelow h = absurd (too-many _ tt h)
apart NotAbove Nil NotBelow NotAbove h = absurd (too-many _ tt h)
apart NotAbove Nil NotAbove Nil h = (refl, refl)
apart NotAbove Nil NotAbove NotBelow h = absurd (too-many _ tt h)
apart NotAbove Nil NotAbove NotAbove h = absurd (too-many _ tt h)
apart NotAbove NotBelow Nil Nil h = absurd (too-many _ tt h)
apart NotAbove NotBelow Nil NotBelow h = absurd (too-many _ tt h)
apart NotAbove NotBelow Nil NotAbove h = absurd (too-many _ tt h)
apart NotAbove NotBelow NotBelow Nil h = absurd (too-many _ tt h)
apart NotAbove NotBelow NotBelow NotBelow h = absurd (too-many _ tt h)
apart NotAbove NotBelow NotBelow NotAbove h = absurd (too-many _ tt h)
apart NotAbove NotBelow NotAbove Nil h = absurd (too-many _ tt h)
apart NotAbove NotBelow NotAbove NotBelow h = (refl, refl)
apart NotAbove NotBelow NotAbove NotAbove h = absurd (too-many _ tt h)
apart NotAbove NotAbove Nil Nil h = absurd (too-many _ tt h)
apart NotAbove NotAbove Nil NotBelow h = absurd (too-many _ tt h)
apart NotAbove NotAbove Nil NotAbove h = absurd (too-many _ tt h)
apart NotAbove NotAbove NotBelow Nil h = absurd (too-many _ tt h)
apart NotAbove NotAbove NotBelow NotBelow h = absurd (too-many _ tt h)
apart NotAbove NotAbove NotBelow NotAbove h = absurd (too-many _ tt h)
apart NotAbove NotAbove NotAbove Nil h = absurd (too-many _ tt h)
apart NotAbove NotAbove NotAbove NotBelow h = absurd (too-many _ tt h)
apart NotAbove NotAbove NotAbove NotAbove h = (refl, refl)

in-blocks : (m : ResMsg) → word_of m ≡ blocks (0xC0 + bit_of m.many) (code_of m.cancel * 4 + code_of m.vrc) 0 (parity_of m.cancel m.vrc) m.sender
in-blocks m = omega arith

-- Blocks are told apart.
pub record Same (high n v mid high' n' v' mid' : ℕ) : Type 0 where
  pub highs : high ≡ high'
  pub nibs : n ≡ n'
  pub parities : v ≡ v'
  pub senders : mid ≡ mid'

same-blocks : (high n v mid high' n' v' mid' : ℕ) → n < 16 → v < 16 → mid < 2 ^ 24 → n' < 16 → v' < 16 → mid' < 2 ^ 24 →
    blocks high n 0 v mid ≡ blocks high' n' 0 v' mid' → Same high n v mid high' n' v' mid'
same-blocks high n v mid high' n' v' mid' a b c a' b' c' e = record { highs = omega arith; nibs = omega arith; parities = omega arith; senders = omega arith }

pub distance : (m n : ResMsg) (mask : ℕ) → IsAddress m.sender → IsAddress n.sender → mask < 256 → count_ones mask ≤ 3 → flip_word (word_of m) mask ≡ word_of n → n ≡ m
distance m n mask am an small few e =
    let mh = mask / 16 in let ml = mask % 16 in
    let hh : mh < 16 = omega arith in
    let hl : ml < 16 = omega arith in
    let a : code_of m.cancel * 4 + code_of m.vrc < 16 = omega (arith, code-small m.cancel, code-small m.vrc) in
    let b : parity_of m.cancel m.vrc < 16 = parity-small m.cancel m.vrc in
    let c : m.sender < 2 ^ 24 = omega (arith, am.1) in
    let a' : code_of n.cancel * 4 + code_of n.vrc < 16 = omega (arith, code-small n.cancel, code-small n.vrc) in
    let b' : parity_of n.cancel n.vrc < 16 = parity-small n.cancel n.vrc in
    let c' : n.sender < 2 ^ 24 = omega (arith, an.1) in
    let f = flip-blocks (0xC0 + bit_of m.many) (code_of m.cancel * 4 + code_of m.vrc) 0 (parity_of m.cancel m.vrc) m.sender mh ml a (lit< tt) b c hh hl in
    let s = same-blocks (0xC0 + bit_of m.many) (bit_xor (code_of m.cancel * 4 + code_of m.vrc) mh) (bit_xor (parity_of m.cancel m.vrc) ml) m.sender
    (0xC0 + bit_of n.many) (code_of n.cancel * 4 + code_of n.vrc) (parity_of n.cancel n.vrc) n.sender
    (xor_lt 4 _ _ a hh) (xor_lt 4 _ _ b hl) c a' b' c'
    (sym f ∙ ap (λ (w : ℕ). bit_xor w (mh * 2 ^ 42 + ml * 2 ^ 24)) (sym (in-blocks m)) ∙ e ∙ in-blocks n) in
    let x : mh ≡ bit_xor (code_of m.cancel * 4 + code_of m.vrc) (code_of n.cancel * 4 + code_of n.vrc) = differ _ _ mh s.nibs in
    let y : ml ≡ bit_xor (parity_of m.cancel m.vrc) (parity_of n.cancel n.vrc) = differ _ _ ml s.parities in
    let z : mask ≡ mh * 16 + ml = omega arith in
    let d = apart m.cancel m.vrc n.cancel n.vrc (subst (λ (k : ℕ). count_ones k ≤ 3) (z ∙ ap₂ (λ (p q : ℕ). p * 16 + q) x y) few) in
    let many : bit_of m.many ≡ bit_of n.many = let h = s.highs in omega arith in
    same-message n m (bits-same n.many m.many (sym many)) (sym d.0) (sym d.1) (sym s.senders)

-- a word that a mask leaves as it is.
pub unflipped : (w mask : ℕ) → mask < 256 → flip_word w mask ≡ w → mask ≡ 0
unflipped w mask small e =
    let x : mask / 16 * 2 ^ 42 + mask % 16 * 2 ^ 24 ≡ 0 = differ w w (mask / 16 * 2 ^ 42 + mask % 16 * 2 ^ 24) e ∙ xor_self w in
    omega arith

empty : count_ones 0 ≡ 0
unfolding ones
empty = refl

pub no-code-word : (m : ResMsg) (word mask : ℕ) → Word m word → mask < 256 → 1 ≤ count_ones mask → count_ones mask ≤ 3 → ¬ IsCodeWord (flip_word word mask)
no-code-word m word mask h small some few is =
    let n = is.0 in let k = is.1 in
    let e : word ≡ word_of m = only-word m word h in
    let f : flip_word word mask ≡ word_of n = only-word n _ k in
    let same : n ≡ m = distance m n mask h.address k.address small few (ap (λ (w : ℕ). flip_word w mask) (sym e) ∙ f) in
    let none : mask ≡ 0 = unflipped word mask small (f ∙ ap word_of same ∙ sym e) in
    let ones_none : count_ones mask ≡ 0 = ap count_ones none ∙ empty in
    omega arith
