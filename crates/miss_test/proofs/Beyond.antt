-- A pair that stays beyond the distance is never within it.
use Rattle.std.proofs.Common.{◌≡◌, ℕ, zero, suc, ◌+◌, ◌-◌, ◌*◌, ◌≤◌, ◌<◌, ℤ, pos, negsuc, Bool, true, false, arith, inl, inr, leb-true, refl}
use Rattle.std.specs.Prelude.{◌-ℤ◌, ◌*ℤ◌, int_le, int_lt, ◌&&◌, ◌||◌}
use Rattle.std.proofs.lemmas.Bool.{cases_lt}
use Rattle.std.proofs.lemmas.Int.{ints}
use Rattle.std.proofs.lemmas.Nat.{mul-le}
use Rattle.miss_test.specs.Miss.{NeverComesWithin, stays_beyond}

-- ---- natural numbers

-- The sum of two squares is at least twice the product.
twice-product : (a b : ℕ) → 2 * (a * b) ≤ a * a + b * b
twice-product zero b = omega arith
twice-product (suc a) zero = omega arith
twice-product (suc a) (suc b) = omega (arith, twice-product a b)

cancel : (n x y : ℕ) → 0 < n → n * x ≤ n * y → x ≤ y
cancel n x y some h = elim (cases_lt y x) [
  | inl less ↦ (let more : n * (y + 1) ≤ n * x = mul-le n (y + 1) n x (omega arith) (omega arith) in absurd (omega (arith, more, h, some)))
  | inr as_much ↦ as_much
]

-- A square that shrinks by w a second, and turns in time, gets no lower.
turns : (w n x t : ℕ) → 0 < n → w * w ≤ 2 * n * x → 2 * (w * t) ≤ 2 * x + n * (t * t)
turns w n x t some h = cancel n (2 * (w * t)) (2 * x + n * (t * t)) some (omega (arith, twice-product w (n * t), h))

-- ---- whole numbers

both : (b c : Bool) → (b && c) ≡ true → (b ≡ true) × (c ≡ true)
both true c is = (refl, is)
both false c is = absurd (cc is)

-- The two parts of the test.
abbrev is_beyond : ℕ → ℤ → Bool
is_beyond distance q = int_le (pos (distance * distance)) q

abbrev in_room : ℕ → ℤ → ℤ → ℤ → Bool
in_room distance q v a = int_le (v *ℤ v) ((pos 2 *ℤ a) *ℤ (q -ℤ pos (distance * distance)))

abbrev turns_back : ℕ → ℤ → ℤ → ℤ → Bool
turns_back distance q v a = int_le (pos 0) v || (int_lt (pos 0) a && in_room distance q v a)

beyond : (distance : ℕ) (q v a : ℤ) → stays_beyond distance q v a ≡ true → is_beyond distance q ≡ true
beyond distance q v a stays = (both (is_beyond distance q) (turns_back distance q v a) stays).0

turning : (distance w : ℕ) (q a : ℤ) → stays_beyond distance q (negsuc w) a ≡ true → (int_lt (pos 0) a ≡ true) × (in_room distance q (negsuc w) a ≡ true)
turning distance w q a stays = both (int_lt (pos 0) a) (in_room distance q (negsuc w) a) (both (is_beyond distance q) (turns_back distance q (negsuc w) a) stays).1

pub never-within : NeverComesWithin
never-within distance seconds (negsuc k) v a forward stays = absurd (cc (beyond distance (negsuc k) v a stays))
never-within distance seconds (pos k) v (negsuc n) forward stays = absurd (omega (arith, ints, forward))
never-within distance seconds (pos k) (pos w) (pos n) forward stays =
    let near : distance * distance ≤ k = leb-true (distance * distance) k (beyond distance (pos k) (pos w) (pos n) stays) in
    omega (arith, ints, near)
never-within distance seconds (pos k) (negsuc w) (pos n) forward stays =
    let square = distance * distance in
    let near : square ≤ k = leb-true square k (beyond distance (pos k) (negsuc w) (pos n) stays) in
    let room = turning distance w (pos k) (pos n) stays in
    let some : 0 < n = leb-true 1 n room.0 in
    let above : pos k -ℤ pos square ≡ pos (k - square) = omega (arith, ints, near) in
    let in_time : int_le (negsuc w *ℤ negsuc w) ((pos 2 *ℤ pos n) *ℤ pos (k - square)) ≡ true = rw above at room.1 in
    let slow : 2 * (suc w * seconds) ≤ 2 * (k - square) + n * (seconds * seconds) = turns (suc w) n (k - square) seconds some (leb-true (suc w * suc w) (2 * n * (k - square)) in_time) in
    omega (arith, ints, near, slow)
