-- How many exchanges a row has at most.
use Rattle.std.proofs.Common.{ℕ, ◌+◌, ◌-◌, ◌≤◌, List, arith, get_or, length}
use Rattle.std.specs.Prelude.{filter}
use Rattle.std.specs.List.{range_with_len}
use Rattle.std.proofs.lemmas.List.{length-map}
use Rattle.std.proofs.lemmas.List.Concat.{length-flat_map}
use Rattle.std.proofs.lemmas.List.FromFn.{length-range_with_len}
use Rattle.std.proofs.lemmas.List.Sums.{count_by-le-length, length-filter, sum_by-le}
use Rattle.acas_base.specs.declared.craft.CraftSpec.{CraftSpec}
use Rattle.variants.specs.Rows.{exchange_of, exchanges_by, exchanges_from, is_ra_at}

few-kept : (crafts : List CraftSpec) (row : List ℕ) → length (filter (is_ra_at crafts) row) ≤ length row
few-kept crafts row = omega (arith, length-filter (is_ra_at crafts) row, count_by-le-length (is_ra_at crafts) row)

few-from : (crafts : List CraftSpec) (one : ℕ) → length (exchanges_from crafts one) ≤ length crafts
few-from crafts one =
    let row = range_with_len (one + 1) (length crafts - (one + 1)) in
    omega (arith, length-map (filter (is_ra_at crafts) row) (exchange_of one), few-kept crafts row, length-range_with_len (one + 1) (length crafts - (one + 1)))

-- Those of the first so many aircraft.
pub few-by : (crafts : List CraftSpec) (n : ℕ) → n ≤ 16 → length crafts ≤ 16 → length (exchanges_by crafts (range_with_len 0 n)) ≤ 256
few-by crafts n some few =
    let row = range_with_len 0 n in
    let kept = filter (is_ra_at crafts) row in
    let each = sum_by-le (λ one. length (exchanges_from crafts one)) 16 kept (λ k d within. (let it = few-from crafts (get_or kept k d) in omega (arith, it, few))) in
    omega (arith, length-flat_map (exchanges_from crafts) kept, each, few-kept crafts row, length-range_with_len 0 n, some)
