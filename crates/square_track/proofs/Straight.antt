-- The square track of a straight flight has no error.
use Rattle.std.proofs.Common.{◌≡◌, ◌∙◌, ℕ, zero, suc, ℤ, pos, negsuc, ◌+◌, ap, arith, le-leb, ne_eqb, refl}
use Rattle.std.specs.Prelude.{◌*◌, min, ◌+ℤ◌, ◌-ℤ◌, ◌*ℤ◌}
use Rattle.std.proofs.lemmas.Int.{clamps, ints}
use Rattle.acas_num.proofs.Quotients.{quotient}
use Rattle.acas_num.specs.Clamp.{LiesBetween, clamped}
use Rattle.square_track.specs.SquareTrack.{IsRate, IsSecond, IsSquare, calm_after, corrected, half, kept_rate, kept_second, kept_square, most_calm, most_missed, predicted, share}
use Rattle.square_track.specs.Straight.{BeginsExactly, GoesOnExactly, IsTracked, MissesExactly, Passing, exact, later, rate_in, second_in, square_in}
use Rattle.square_track.specs.declared.state.SquareState.TheVariants.{Run}

-- ---- numbers within the limits are kept

between : (low high a : ℤ) → LiesBetween low high a → clamped low high a ≡ a
unfolding clamped
between low high a is = omega (arith, ints, clamps, is.at_least, is.at_most)

square-is : (a b : ℤ) → a ≡ b → IsSquare b → kept_square a ≡ b
square-is a b e is = ap kept_square e ∙ between _ _ b is

rate-is : (a b : ℤ) → a ≡ b → IsRate b → kept_rate a ≡ b
rate-is a b e is = ap kept_rate e ∙ between _ _ b (record { at_least = omega (arith, ints, is); at_most = omega (arith, ints, is) })

second-is : (a b : ℤ) → a ≡ b → IsSecond b → kept_second a ≡ b
second-is a b e is = ap kept_second e ∙ between _ _ b (record { at_least = omega (arith, ints, is); at_most = omega (arith, ints, is) })

-- ---- quotients

half-of : (a : ℤ) → half (pos 2 *ℤ a) ≡ a
half-of a = let q = quotient (pos 2 *ℤ a) (pos 2) (omega (arith, ints)) in omega (arith, ints, q.within, q.no_more)

no-share : (gain : ℕ) → share gain (pos 0) ≡ pos 0
no-share gain = let q = quotient (pos gain *ℤ pos 0) (pos 1024) (omega (arith, ints)) in omega (arith, ints, q.within, q.no_more)

-- ---- sums of products

-- A sum times a number.
sum-times-pos : (a b : ℤ) (n : ℕ) → (a +ℤ b) *ℤ pos n ≡ a *ℤ pos n +ℤ b *ℤ pos n
sum-times-pos a b zero = omega (arith, ints)
sum-times-pos a b (suc n) = omega (arith, ints, sum-times-pos a b n)

sum-times : (a b c : ℤ) → (a +ℤ b) *ℤ c ≡ a *ℤ c +ℤ b *ℤ c
sum-times a b (pos n) = sum-times-pos a b n
sum-times a b (negsuc n) = omega (arith, ints, sum-times-pos a b (suc n))

times-sum : (a b c : ℤ) → c *ℤ (a +ℤ b) ≡ c *ℤ a +ℤ c *ℤ b
times-sum a b c = omega (arith, ints, sum-times a b c)

square-of-sum : (a b : ℤ) → (a +ℤ b) *ℤ (a +ℤ b) ≡ a *ℤ a +ℤ (pos 2 *ℤ (a *ℤ b) +ℤ b *ℤ b)
square-of-sum a b = omega (arith, ints, sum-times a b (a +ℤ b), times-sum a b a, times-sum a b b)

square-later : (x y u v : ℤ) → (x *ℤ x +ℤ y *ℤ y) +ℤ (pos 2 *ℤ (x *ℤ u +ℤ y *ℤ v) +ℤ (u *ℤ u +ℤ v *ℤ v)) ≡ (x +ℤ u) *ℤ (x +ℤ u) +ℤ (y +ℤ v) *ℤ (y +ℤ v)
square-later x y u v = omega (arith, ints, square-of-sum x u, square-of-sum y v)

rate-later : (x y u v : ℤ) → pos 2 *ℤ (x *ℤ u +ℤ y *ℤ v) +ℤ pos 2 *ℤ (u *ℤ u +ℤ v *ℤ v) ≡ pos 2 *ℤ ((x +ℤ u) *ℤ u +ℤ (y +ℤ v) *ℤ v)
rate-later x y u v = omega (arith, ints, sum-times x u u, sum-times y v v)

-- ---- a second

-- Half of the second rate.
abbrev bend_in : Passing → ℤ
bend_in p = p.x_rate *ℤ p.x_rate +ℤ p.y_rate *ℤ p.y_rate

square-next : (p : Passing) → square_in p +ℤ (rate_in p +ℤ half (second_in p)) ≡ square_in (later p)
square-next p = ap (λ (h : ℤ). square_in p +ℤ (rate_in p +ℤ h)) (half-of (bend_in p)) ∙ square-later p.x p.y p.x_rate p.y_rate

rate-next : (p : Passing) → rate_in p +ℤ second_in p ≡ rate_in (later p)
rate-next p = rate-later p.x p.y p.x_rate p.y_rate

predicted-is : (p : Passing) → IsTracked (later p) → predicted (square_in p) (rate_in p) (second_in p) ≡ square_in (later p)
predicted-is p is = square-is _ _ (square-next p) is.square

rate-then : (p : Passing) → IsTracked (later p) → kept_rate (rate_in p +ℤ second_in p) ≡ rate_in (later p)
rate-then p is = rate-is _ _ (rate-next p) is.rate

calm-then : (range calm : ℕ) → calm_after range (pos 0) calm ≡ min most_calm (calm + 1)
calm-then range calm = rw (le-leb 0 (32 * range) (omega arith)) refl

-- Nothing is added where there is no surprise.
unmoved : (a b s : ℤ) → a ≡ b → s ≡ pos 0 → a +ℤ s ≡ b
unmoved a b s e none = omega (arith, ints)

corrected-is : (p : Passing) (range calm : ℕ) → IsTracked (later p) → corrected (square_in (later p)) (rate_in p) (second_in p) (pos 0) (calm_after range (pos 0) calm) ≡ exact (later p) 0 (min most_calm (calm + 1))
corrected-is p range calm is =
    let square = square-is _ (square_in (later p)) (unmoved _ _ _ refl (no-share 673)) is.square in
    let rate = rate-is _ (rate_in (later p)) (unmoved _ _ _ (rate-next p) (no-share 235)) is.rate in
    let second = second-is _ (second_in p) (unmoved _ _ _ refl (no-share 28)) is.second in
    let count = calm-then range calm in
    λ i. Run (square i) (rate i) (second i) 0 (count i)

pub goes-on : GoesOnExactly
goes-on p missed calm m is measures =
    let same = predicted-is p is in
    let surprise : m.square -ℤ predicted (square_in p) (rate_in p) (second_in p) ≡ pos 0 = omega (arith, ints, same, measures) in
    (λ i. corrected (same i) (rate_in p) (second_in p) (surprise i) (calm_after m.range (surprise i) calm)) ∙ corrected-is p m.range calm is

pub misses : MissesExactly
misses p missed calm is few =
    let square = predicted-is p is in
    let rate = rate-then p is in
    (rw (ne_eqb missed most_missed (omega (arith, few))) refl) ∙ (λ i. Run (square i) (rate i) (second_in p) (missed + 1) calm)

-- ---- the first three measurements

-- What the square grows by in a second.
grown : (x y u v : ℤ) → ((x +ℤ u) *ℤ (x +ℤ u) +ℤ (y +ℤ v) *ℤ (y +ℤ v)) -ℤ (x *ℤ x +ℤ y *ℤ y) ≡ pos 2 *ℤ (x *ℤ u +ℤ y *ℤ v) +ℤ (u *ℤ u +ℤ v *ℤ v)
grown x y u v = omega (arith, ints, square-of-sum x u, square-of-sum y v)

grown-by : (p : Passing) (a b : ℤ) → a ≡ square_in p → b ≡ square_in (later p) → b -ℤ a ≡ rate_in p +ℤ bend_in p
grown-by p a b first second = (λ i. second i -ℤ first i) ∙ grown p.x p.y p.x_rate p.y_rate

-- The rate halfway between two rates that are within the limits is within them, too.
halfway : (r h s : ℤ) → r +ℤ pos 2 *ℤ h ≡ s → IsRate r → IsRate s → IsRate (r +ℤ h)
halfway r h s e here there = omega (arith, ints, e, here, there)

bend-of : (r h s : ℤ) → r +ℤ pos 2 *ℤ h ≡ s → (s +ℤ h) -ℤ (r +ℤ h) ≡ pos 2 *ℤ h
bend-of r h s e = omega (arith, ints, e)

-- Of the change before and the change after, the second one has half of the second rate less than the rate at its end.
rate-at-end : (r h s : ℤ) → r +ℤ pos 2 *ℤ h ≡ s → (r +ℤ h) +ℤ h ≡ s
rate-at-end r h s e = omega (arith, ints, e)

pub begins : BeginsExactly
begins p one two three here next last first second third =
    let h = bend_in p in
    let before = grown-by p one.square two.square first second in
    let after = grown-by (later p) two.square three.square second third in
    let change = rate-is _ (rate_in p +ℤ h) before (halfway (rate_in p) h (rate_in (later p)) (rate-next p) here.rate next.rate) in
    let bent = second-is _ (second_in p) ((λ i. after i -ℤ change i) ∙ bend-of (rate_in p) h (rate_in (later p)) (rate-next p)) here.second in
    let rate = rate-is _ (rate_in (later (later p))) ((λ i. after i +ℤ half (bent i)) ∙ ap (λ (k : ℤ). (rate_in (later p) +ℤ h) +ℤ k) (half-of h) ∙ rate-at-end (rate_in (later p)) h (rate_in (later (later p))) (rate-next (later p))) last.rate in
    λ i. Run (third i) (rate i) (bent i) 0 0
