-- Shares of a length.
use Rattle.std.proofs.Common.{◌≡◌, ℕ, ◌+◌, ◌-◌, ◌*◌, ◌/◌, ◌<◌, ◌≤◌, arith, ap, ◌∙◌}
use Rattle.std.proofs.Math.Nat.{add-mul, div-le_of_le-mul, div-mul-le_self, lt-div-mul-add, mul-div_cancel, mul-le-mul_left, zero-div}
use Rattle.std.proofs.lemmas.Nat.{le-div}
use Rattle.plot_axes.specs.Scale.{IsKept, share}
use Rattle.plot_axes.specs.Time.{HoldsRun, axis_begin, begin_of}

pub kept : (length whole part more : ℕ) → 0 < whole → part ≤ more → more ≤ whole → IsKept length whole part more
kept length whole part more some order within = record {
  in_order = le-div (length * part / whole) (length * more) whole some (omega (arith, div-mul-le_self (length * part) whole, mul-le-mul_left length order));
  within = div-le_of_le-mul whole (omega (arith, mul-le-mul_left length within));
  not_past = div-mul-le_self (length * part) whole;
  near = omega (arith, add-mul (length * part / whole) 1 whole, lt-div-mul-add {a = length * part} some);
}

next : (cycles n : ℕ) → 1 ≤ cycles → cycles ≤ 600 → share 15800 cycles n + 26 ≤ share 15800 cycles (n + 1)
next cycles n some few =
    le-div (15800 * n / cycles + 26) (15800 * (n + 1)) cycles (omega arith) (omega (arith, add-mul (15800 * n / cycles) 26 cycles, div-mul-le_self (15800 * n) cycles))

wider : (cycles cycle : ℕ) → 1 ≤ cycles → cycles ≤ 600 → 1 ≤ cycle → begin_of cycles cycle + 26 ≤ begin_of cycles (cycle + 1)
wider cycles cycle some few first =
    let n : (cycle + 1) - 1 ≡ (cycle - 1) + 1 = omega arith in
    let step = next cycles (cycle - 1) some few in
    let same : share 15800 cycles ((cycle + 1) - 1) ≡ share 15800 cycles ((cycle - 1) + 1) = ap (share 15800 cycles) n in
    omega (arith, step, same)

pub holds : (cycles : ℕ) → 1 ≤ cycles → cycles ≤ 600 → HoldsRun cycles
holds cycles some few = record {
  first = ap (λ n. axis_begin + n) (nothing cycles);
  last = ap (λ n. axis_begin + n) (ap (share 15800 cycles) (end cycles) ∙ mul-div_cancel 15800 some);
  wide = λ cycle first last. wider cycles cycle some few first;
  middle = λ cycle first last. (let w = wider cycles cycle some few first in (omega (arith, w), omega (arith, w)));
}
  where
    end : (n : ℕ) → (n + 1) - 1 ≡ n
    end n = omega arith

    nothing : (n : ℕ) → share 15800 n (1 - 1) ≡ 0
    nothing n = zero-div n
