-- How long a test stays the same.
use Rattle.std.proofs.Common.{◌≡◌, ℕ, suc, ◌+◌, ◌-◌, ◌<◌, ◌≤◌, Bool, true, false, cond, ap, ◌∙◌, arith}
use Rattle.equal_rows.specs.Rows.{lasts}

-- At the last cycle.
pub lasts-end : (f : ℕ → Bool) (cycle last : ℕ) → last ≤ cycle → lasts f cycle (last - cycle) ≡ cycle
lasts-end f cycle last end = ap (lasts f cycle) (let none : last - cycle ≡ 0 = omega arith in none)

by-next : (f : ℕ → Bool) (cycle last : ℕ) → cycle < last → lasts f cycle (last - cycle) ≡ cond (f cycle) (lasts f (cycle + 1) (last - (cycle + 1))) cycle
by-next f cycle last within = ap (lasts f cycle) (let next : last - cycle ≡ suc (last - (cycle + 1)) = omega arith in next)

pub lasts-stop : (f : ℕ → Bool) (cycle last : ℕ) → cycle < last → f cycle ≡ false → lasts f cycle (last - cycle) ≡ cycle
lasts-stop f cycle last within unmet = by-next f cycle last within ∙ ap (λ (b : Bool). cond b (lasts f (cycle + 1) (last - (cycle + 1))) cycle) unmet

pub lasts-on : (f : ℕ → Bool) (cycle last : ℕ) → cycle < last → f cycle ≡ true → lasts f cycle (last - cycle) ≡ lasts f (cycle + 1) (last - (cycle + 1))
lasts-on f cycle last within met = by-next f cycle last within ∙ ap (λ (b : Bool). cond b (lasts f (cycle + 1) (last - (cycle + 1))) cycle) met
