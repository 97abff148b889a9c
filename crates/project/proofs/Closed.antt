-- The sum of what the steps gain, in closed form.
use Rattle.std.proofs.Common.{◌≡◌, ℕ, zero, suc, ◌+◌, ◌*◌, ◌/◌, ◌-◌, ◌%◌, ◌<◌, ◌≤◌, refl, ap, ◌∙◌, leb, leb-true, leb-false, arith, mul-le-mul_right, le_trans}
use Rattle.std.proofs.lemmas.Bool.{cond_both}
use Rattle.std.proofs.lemmas.Nat.{div-add-mod'}
use Rattle.std.proofs.Math.Nat.{mod-lt}
use Rattle.project.specs.Gained.{gain, gains}

-- The goal is not passed, or it is reached.
pub gain-below : (distance step k : ℕ) → k * step ≤ distance → gain distance step k ≡ k * step
gain-below distance step k h =
    cond_both (leb (k * step) distance) (k * step) distance (λ x. x ≡ k * step) (λ _. refl) (λ e. omega (arith, h, leb-false _ _ e))

gain-above : (distance step k : ℕ) → distance < k * step → gain distance step k ≡ distance
gain-above distance step k h =
    cond_both (leb (k * step) distance) (k * step) distance (λ x. x ≡ distance) (λ e. absurd (omega (arith, leb-true _ _ e))) (λ _. refl)

pub gain-bound : (distance step k : ℕ) → gain distance step k ≤ distance
gain-bound distance step k =
    cond_both (leb (k * step) distance) (k * step) distance (λ x. x ≤ distance) (λ e. leb-true _ _ e) (λ _. omega arith)

-- As long as the goal is not passed.
pub all-whole : (distance step m : ℕ) → m * step ≤ distance → gains distance step m ≡ step * (m * (m + 1) / 2)
all-whole distance step zero h = omega arith
all-whole distance step (suc m) h =
    let before : m * step ≤ distance = omega arith in
    let i = all-whole distance step m before in
    let g = gain-below distance step (suc m) h in
    let t : suc m * (suc m + 1) / 2 ≡ m * (m + 1) / 2 + suc m = omega arith in
    rw (i, g, t) (omega arith)

-- And from the last whole step on.
pub then-at-goal : (distance step whole e : ℕ) → distance < (whole + 1) * step → gains distance step (whole + e) ≡ gains distance step whole + e * distance
then-at-goal distance step whole zero h = let n : whole + 0 ≡ whole = omega arith in rw n (omega arith)
then-at-goal distance step whole (suc e) h =
    let n : whole + suc e ≡ suc (whole + e) = omega arith in
    let far : (whole + 1) * step ≤ suc (whole + e) * step = mul-le-mul_right step (omega arith) in
    let g = gain-above distance step (suc (whole + e)) (omega arith) in
    let i = then-at-goal distance step whole e h in
    rw (n, i, g) (omega arith)

low : (a b : ℕ) → a / b * b ≤ a
low a b = let e = div-add-mod' a b in omega arith

high : (a b : ℕ) → 0 < b → a < (a / b + 1) * b
high a b h = let e = div-add-mod' a b in let l : a % b < b = mod-lt a h in omega arith

-- The two cases of the code.
pub not-reached : (distance step moves : ℕ) → moves ≤ distance / step → gains distance step moves ≡ step * (moves * (moves + 1) / 2)
not-reached distance step moves h = all-whole distance step moves (le_trans (mul-le-mul_right step h) (low distance step))

pub reached : (distance step moves : ℕ) → 0 < step → distance / step < moves →
    gains distance step moves ≡ step * (distance / step * (distance / step + 1) / 2) + (moves - distance / step) * distance
reached distance step moves forward h =
    let n : moves ≡ distance / step + (moves - distance / step) = omega arith in
    ap (gains distance step) n
    ∙ then-at-goal distance step (distance / step) (moves - distance / step) (high distance step forward)
    ∙ ap (λ x. x + (moves - distance / step) * distance) (all-whole distance step (distance / step) (low distance step))
