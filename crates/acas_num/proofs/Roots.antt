-- There is one root, and the recursive definition gives it.
use Rattle.std.proofs.Common.{◌≡◌, ℕ, zero, suc, ◌+◌, ◌*◌, ◌≤◌, ◌<◌, cond, leb, leb-true, leb-false, arith, mul-le-mul, inl, inr}
use Rattle.std.proofs.lemmas.Bool.{cond_both, cases_order}
use Rattle.acas_num.specs.Root.{root, IsRoot}

-- n lies between the square of r and the next one.
record HasRoot (n r : ℕ) : Type 0 where
  at_least : r * r ≤ n
  below : n < (r + 1) * (r + 1)

more : (n r : ℕ) → HasRoot n r → HasRoot (suc n) (cond (leb ((r + 1) * (r + 1)) (suc n)) (r + 1) r)
more n r h =
    let b = h.at_least in let a = h.below in
    cond_both (leb ((r + 1) * (r + 1)) (suc n)) (r + 1) r (HasRoot (suc n))
    (λ e. record { at_least = leb-true _ _ e; below = omega arith })
    (λ e. record { at_least = omega arith; below = leb-false _ _ e })

squares : (n : ℕ) → HasRoot n (root n)
unfolding root
squares zero = record { at_least = omega arith; below = omega arith }
squares (suc n) = more n (root n) (squares n)

greatest : (n r : ℕ) → n < (r + 1) * (r + 1) → (s : ℕ) → s * s ≤ n → s ≤ r
greatest n r h s g =
    elim (cases_order r s) [
      | inl e ↦ omega arith
      | inr o ↦ elim o [
        | inl l ↦ let k : r + 1 ≤ s = omega arith in let x : (r + 1) * (r + 1) ≤ s * s = mul-le-mul k k in absurd (omega arith)
        | inr l ↦ omega arith
      ]
    ]

pub root-is : (n : ℕ) → IsRoot n (root n)
root-is n = let h = squares n in record { square = h.at_least; greatest = greatest n (root n) h.below }

pub only-root : (n r : ℕ) → IsRoot n r → r ≡ root n
only-root n r h =
    let g = root-is n in
    let a = g.greatest r h.square in
    let b = h.greatest (root n) g.square in
    omega arith

pub root-between : (n r : ℕ) → r * r ≤ n → n < (r + 1) * (r + 1) → r ≡ root n
root-between n r l h = only-root n r (record { square = l; greatest = greatest n r h })
