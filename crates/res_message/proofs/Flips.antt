-- What a mask flips.
use Rattle.std.proofs.Common.{◌≡◌, ℕ, ◌+◌, ◌*◌, ◌/◌, ◌%◌, ◌^◌, ◌<◌, bit_xor, sym, refl, ap, ◌∙◌, arith}
use Rattle.std.proofs.lemmas.Nat.{xor_block, xor_lt}
use Rattle.std.specs.Int.Bits.{xor_zero_r}
use Rattle.res_message.specs.Words.{field, flip_word, IsFlipped}

-- a word by the two fields that a mask flips, and what stands above, between and below them.
abbrev pub blocks : ℕ → ℕ → ℕ → ℕ → ℕ → ℕ
blocks high n gap v mid = (((high * 2 ^ 4 + n) * 2 ^ 14 + gap) * 2 ^ 4 + v) * 2 ^ 24 + mid

pub flip-blocks : (high n gap v mid mh ml : ℕ) → n < 16 → gap < 2 ^ 14 → v < 16 → mid < 2 ^ 24 → mh < 16 → ml < 16 →
    bit_xor (blocks high n gap v mid) (mh * 2 ^ 42 + ml * 2 ^ 24) ≡ blocks high (bit_xor n mh) gap (bit_xor v ml) mid
flip-blocks high n gap v mid mh ml hn hg hv hm hh hl =
    let x : mh * 2 ^ 42 + ml * 2 ^ 24 ≡ (((0 * 2 ^ 4 + mh) * 2 ^ 14 + 0) * 2 ^ 4 + ml) * 2 ^ 24 + 0 = omega arith in
    let a = xor_block 24 (((high * 2 ^ 4 + n) * 2 ^ 14 + gap) * 2 ^ 4 + v) (((0 * 2 ^ 4 + mh) * 2 ^ 14 + 0) * 2 ^ 4 + ml) mid 0 hm (omega arith) in
    let b = xor_block 4 ((high * 2 ^ 4 + n) * 2 ^ 14 + gap) ((0 * 2 ^ 4 + mh) * 2 ^ 14 + 0) v ml (omega arith) (omega arith) in
    let d = xor_block 14 (high * 2 ^ 4 + n) (0 * 2 ^ 4 + mh) gap 0 (omega arith) (omega arith) in
    let e = xor_block 4 high 0 n mh (omega arith) (omega arith) in
    let z : bit_xor mid 0 ≡ mid = xor_zero_r mid in
    let f : bit_xor high 0 ≡ high = xor_zero_r high in
    let g : bit_xor gap 0 ≡ gap = xor_zero_r gap in
    ap (bit_xor (blocks high n gap v mid)) x ∙ a ∙ omega (arith, b, d, e, z, f, g)

in-blocks : (w : ℕ) → w ≡ blocks (w / 2 ^ 46) (w / 2 ^ 42 % 16) (w / 2 ^ 28 % 2 ^ 14) (w / 2 ^ 24 % 16) (w % 2 ^ 24)
in-blocks w = omega arith

-- The fields of blocks.
told : (f w mask high n gap v mid a b : ℕ) → n < 16 → gap < 2 ^ 14 → v < 16 → mid < 2 ^ 24 → a < 16 → b < 16 → f ≡ blocks high a gap b mid → w ≡ blocks high n gap v mid →
    a ≡ bit_xor n (mask / 16) → b ≡ bit_xor v (mask % 16) → IsFlipped w mask f
told f w mask high n gap v mid a b hn hg hv hm ha hb e h ea eb =
    let fn : field 43 46 w ≡ n = omega arith in
    let fv : field 61 64 w ≡ v = omega arith in
    let fa : field 43 46 f ≡ a = omega arith in
    let fb : field 61 64 f ≡ b = omega arith in
    record {
      complements = fa ∙ ea ∙ ap (λ (k : ℕ). bit_xor k (mask / 16)) (sym fn);
      parity = fb ∙ eb ∙ ap (λ (k : ℕ). bit_xor k (mask % 16)) (sym fv);
      above = omega arith;
      between = omega arith;
      below = omega arith;
    }

pub is-flipped : (w mask : ℕ) → mask < 256 → IsFlipped w mask (flip_word w mask)
is-flipped w mask small =
    let mh = mask / 16 in let ml = mask % 16 in
    let high = w / 2 ^ 46 in let n = w / 2 ^ 42 % 16 in let gap = w / 2 ^ 28 % 2 ^ 14 in let v = w / 2 ^ 24 % 16 in let mid = w % 2 ^ 24 in
    let hh : mh < 16 = omega arith in
    let hl : ml < 16 = omega arith in
    let hn : n < 16 = omega arith in
    let hg : gap < 2 ^ 14 = omega arith in
    let hv : v < 16 = omega arith in
    let hm : mid < 2 ^ 24 = omega arith in
    let e = ap (λ (k : ℕ). bit_xor k (mh * 2 ^ 42 + ml * 2 ^ 24)) (in-blocks w) ∙ flip-blocks high n gap v mid mh ml hn hg hv hm hh hl in
    told (flip_word w mask) w mask high n gap v mid (bit_xor n mh) (bit_xor v ml) hn hg hv hm (xor_lt 4 _ _ hn hh) (xor_lt 4 _ _ hv hl) e (in-blocks w) refl refl
