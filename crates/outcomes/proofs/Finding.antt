-- The first and the last number that passes a test.
use Rattle.std.proofs.Common.{◌≡◌, ℕ, zero, suc, ◌+◌, ◌-◌, ◌<◌, ◌≤◌, Bool, true, false, cond, Some, None, sym, ap, ◌∙◌, arith}
use Rattle.std.specs.Prelude.{find}
use Rattle.std.specs.List.{range_with_len}
use Rattle.std.specs.Option.{option_or}
use Rattle.response.proofs.Numbers.{first-kept, first-more, tested}
use Rattle.outcomes.specs.Advised.{last_where}

-- ---- the first

next-tested : (p : ℕ → Bool) (n : ℕ) (b : Bool) → p (n + 1) ≡ b → tested p (1 + n) ≡ cond b (Some (n + 1)) None
next-tested p n b e = let here : 1 + n ≡ n + 1 = omega arith in ap (tested p) here ∙ ap (λ t. cond t (Some (n + 1)) None) e

pub found-now : (p : ℕ → Bool) (n cycles : ℕ) → find p (range_with_len 1 n) ≡ None → p (n + 1) ≡ true → n < cycles → find p (range_with_len 1 cycles) ≡ Some (n + 1)
found-now p n cycles none met within =
    let all : suc n + (cycles - suc n) ≡ cycles = omega arith in
    let here = first-more p 1 n ∙ ap (λ o. option_or o (tested p (1 + n))) none ∙ next-tested p n true met in
    ap (λ k. find p (range_with_len 1 k)) (sym all) ∙ first-kept p 1 (suc n) (cycles - suc n) (n + 1) here

pub none-yet : (p : ℕ → Bool) (n : ℕ) → find p (range_with_len 1 n) ≡ None → p (n + 1) ≡ false → find p (range_with_len 1 (n + 1)) ≡ None
none-yet p n none unmet =
    let next : n + 1 ≡ suc n = omega arith in
    ap (λ k. find p (range_with_len 1 k)) next ∙ first-more p 1 n ∙ ap (λ o. option_or o (tested p (1 + n))) none ∙ next-tested p n false unmet

-- ---- the last

pub last-now : (p : ℕ → Bool) (n : ℕ) → 1 ≤ n → p n ≡ true → last_where p n ≡ Some n
last-now p zero some met = absurd (omega arith)
last-now p (suc n) some met = ap (λ b. cond b (Some (suc n)) (last_where p n)) met

pub last-before : (p : ℕ → Bool) (n : ℕ) → 1 ≤ n → p n ≡ false → last_where p n ≡ last_where p (n - 1)
last-before p zero some unmet = absurd (omega arith)
last-before p (suc n) some unmet =
    let back : n ≡ suc n - 1 = omega arith in
    ap (λ b. cond b (Some (suc n)) (last_where p n)) unmet ∙ ap (last_where p) back
