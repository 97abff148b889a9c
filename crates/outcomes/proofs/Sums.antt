-- Sums over a range, number by number.
use Rattle.std.proofs.Common.{◌≡◌, ℕ, ◌+◌, ap, ◌∙◌}
use Rattle.std.specs.Prelude.{sum_by}
use Rattle.std.specs.List.{range_with_len}
use Rattle.std.proofs.lemmas.List.Sums.{sum_by_push}
use Rattle.response.proofs.Numbers.{range-more}

pub sum-more : (f : ℕ → ℕ) (first n : ℕ) → sum_by f (range_with_len first (n + 1)) ≡ sum_by f (range_with_len first n) + f (first + n)
sum-more f first n = ap (sum_by f) (range-more first n) ∙ sum_by_push f (range_with_len first n) (first + n)
