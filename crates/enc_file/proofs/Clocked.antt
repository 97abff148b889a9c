-- The text of a time of day tells it.
use Rattle.std.proofs.Common.{◌≡◌, ℕ, ◌+◌, ◌*◌, ◌-◌, ◌/◌, ◌%◌, ◌<◌, ◌≤◌, true, Some, refl, arith}
use Rattle.std.specs.Prelude.{nat_lt}
use Rattle.std.specs.Str.{bytes_eq}
use Rattle.std.proofs.lemmas.Slice.Eq.{bytes_eq-Decides}
use Rattle.plot_axes.specs.Clock.{clock_text}
use Rattle.enc_file.specs.Clock.{clock_in, told}

-- Two digits of a number below 100.
two-digits : (n : ℕ) → n < 100 → 10 * ((48 + n / 10 % 10) - 48) + ((48 + n % 10) - 48) ≡ n
two-digits n h = omega arith

three-parts : (second : ℕ) → 3600 * (second / 3600) + 60 * (second / 60 % 60) + second % 60 ≡ second
three-parts second = omega arith

told-is : (second : ℕ) → second < 86400 → told (clock_text second) ≡ second
unfolding clock_text
told-is second h =
    rw (two-digits (second / 3600) (omega arith), two-digits (second / 60 % 60) (omega arith), two-digits (second % 60) (omega arith)) (three-parts second)

pub clock-is : (second : ℕ) → second < 86400 → clock_in (clock_text second) ≡ Some second
unfolding clock_in
clock-is second h =
    let day : nat_lt second 86400 ≡ true = grind (arith, h) in
    let same : bytes_eq (clock_text second) (clock_text second) ≡ true = (bytes_eq-Decides (clock_text second) (clock_text second)).1 refl in
    rw (told-is second h, day, same) refl
