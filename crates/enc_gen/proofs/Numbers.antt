-- The numbers that are drawn.
use Rattle.std.proofs.Common.{ℕ, zero, suc, ◌<◌, ◌≤◌, ◌/◌, ◌^◌, arith}
use Rattle.std.specs.Prelude.{count_ones, pos}
use Rattle.std.specs.Int.Count.{ones}
use Rattle.std.proofs.Math.Nat.{mod-lt}
use Rattle.std.proofs.lemmas.Int.{ints}
use Rattle.acas_base.specs.Ranges.{IsBetween, IsWithin}
use Rattle.enc_gen.specs.Crafts.{altitude, climb, coordinate}
use Rattle.enc_gen.specs.Draws.{number_below}

pub number-small : (n s : ℕ) → 0 < n → number_below n s < n
unfolding number_below
number-small n s some = mod-lt (s / 65536) some

pub coordinate-near : (s : ℕ) → IsWithin 60000 (coordinate (number_below 121 s))
coordinate-near s =
    let small = number-small 121 s (omega arith) in
    (omega (arith, ints, small), omega (arith, ints, small))

pub altitude-near : (s : ℕ) → IsBetween (pos 5000) (pos 34900) (altitude (number_below 300 s))
altitude-near s =
    let small = number-small 300 s (omega arith) in
    (omega (arith, ints, small), omega (arith, ints, small))

pub climb-near : (s : ℕ) → IsWithin 1000 (climb (number_below 21 s))
climb-near s =
    let small = number-small 21 s (omega arith) in
    (omega (arith, ints, small), omega (arith, ints, small))

-- One bit of a byte.
pub bit-small : (bit : ℕ) → bit < 8 → 2 ^ bit < 256
bit-small zero h = omega arith
bit-small (suc zero) h = omega arith
bit-small (suc (suc zero)) h = omega arith
bit-small (suc (suc (suc zero))) h = omega arith
bit-small (suc (suc (suc (suc zero)))) h = omega arith
bit-small (suc (suc (suc (suc (suc zero))))) h = omega arith
bit-small (suc (suc (suc (suc (suc (suc zero)))))) h = omega arith
bit-small (suc (suc (suc (suc (suc (suc (suc zero))))))) h = omega arith
bit-small (suc (suc (suc (suc (suc (suc (suc (suc n)))))))) h = absurd (omega arith)

pub bit-one : (bit : ℕ) → bit < 8 → count_ones (2 ^ bit) ≤ 3
unfolding ones
bit-one zero h = omega arith
bit-one (suc zero) h = omega arith
bit-one (suc (suc zero)) h = omega arith
bit-one (suc (suc (suc zero))) h = omega arith
bit-one (suc (suc (suc (suc zero)))) h = omega arith
bit-one (suc (suc (suc (suc (suc zero))))) h = omega arith
bit-one (suc (suc (suc (suc (suc (suc zero)))))) h = omega arith
bit-one (suc (suc (suc (suc (suc (suc (suc zero))))))) h = omega arith
bit-one (suc (suc (suc (suc (suc (suc (suc (suc n)))))))) h = absurd (omega arith)
