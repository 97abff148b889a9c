-- The bounds that an aircraft is above in a cycle follow from those in the cycle before.
use Rattle.std.proofs.Common.{◌≡◌, ℕ, zero, suc, ◌+◌, ℤ, List, [], ◌∷◌, refl, sym, ◌∙◌, ap}
use Rattle.std.proofs.Math.Numerals.{add-one}
use Rattle.acas_base.specs.declared.setting.Profile.{Profile}
use Rattle.flight.specs.Measurement.{newest_first}
use Rattle.sens_table.specs.Above.{above_of}
use Rattle.sens_table.specs.declared.above.Above.{Above}

next-cycle : (p : Profile) (e : ℤ) (f : ℕ → ℤ) (cycle : ℕ) (result : Above) (feet : ℤ) → feet ≡ f (cycle + 1) → result ≡ above_of p e (feet ∷ newest_first f cycle) → result ≡ above_of p e (newest_first f (cycle + 1))
next-cycle p e f cycle result feet at is =
    is ∙ ap (λ x. above_of p e (x ∷ newest_first f cycle)) (at ∙ ap f (add-one cycle)) ∙ ap (λ n. above_of p e (newest_first f n)) (sym (add-one cycle))

pub after-none : (p : Profile) (e : ℤ) (f : ℕ → ℤ) (cycle : ℕ) (result : Above) (feet : ℤ) → cycle ≡ 0 → feet ≡ f (cycle + 1) → result ≡ above_of p e (feet ∷ []) → result ≡ above_of p e (newest_first f (cycle + 1))
after-none p e f cycle result feet none at is = next-cycle p e f cycle result feet at (is ∙ ap (λ n. above_of p e (feet ∷ newest_first f n)) (sym none))

pub after-some : (p : Profile) (e : ℤ) (f : ℕ → ℤ) (cycle : ℕ) (self result : Above) (feet : ℤ) → (cycle ≡ 0 → ⊥) → self ≡ above_of p e (newest_first f cycle) → feet ≡ f (cycle + 1)
    → ((before : ℤ) (earlier : List ℤ) → self ≡ above_of p e (before ∷ earlier) → result ≡ above_of p e (feet ∷ before ∷ earlier)) → result ≡ above_of p e (newest_first f (cycle + 1))
after-some p e f zero self result feet some is at law = absurd (some refl)
after-some p e f (suc k) self result feet some is at law = next-cycle p e f (suc k) result feet at (law (f (suc k)) (newest_first f k) is)
