-- The test that every aircraft stays in the box.
use Rattle.std.proofs.Common.{◌≡◌, ℕ, ◌+◌, ◌-◌, ◌<◌, ◌≤◌, Bool, ◌&&◌, get_or, length, refl, sym, ◌∙◌, subst, arith, rules}
use Rattle.std.specs.Prelude.{ℤ, pos, neg_ℤ, ◌↔◌, IsTrue, int_le, ◌≤ℤ◌}
use Rattle.std.specs.Bool.{Decides}
use Rattle.std.specs.List.{list_all, range_with_len}
use Rattle.std.proofs.lemmas.Bool.Decides.{Decides-and, Decides-by_and, Decides-like}
use Rattle.std.proofs.lemmas.List.FromFn.{get_or-range_with_len, length-range_with_len}
use Rattle.acas_base.specs.Encounter.{Parts}
use Rattle.acas_base.specs.Ranges.{IsBetween}
use Rattle.flight.specs.Flight.{position}
use Rattle.flight.specs.Inside.{IsInBox, IsInside, is_between, is_in_box, stays_inside}
use Rattle.flight.specs.declared.place.Place.{Place}

order-tested : (a b : ℤ) → Decides (int_le a b) (a ≤ℤ b)
order-tested a b = search rules

between-tested : (low high n : ℤ) → Decides (is_between low high n) (IsBetween low high n)
between-tested low high n = Decides-and (int_le low n) (int_le n high) (order-tested low n) (order-tested n high)

box-tested : (p : Place) → Decides (is_in_box p) (IsInBox p)
box-tested p =
    let x = between-tested (neg_ℤ (pos 1000000)) (pos 1000000) p.x in
    let y = between-tested (neg_ℤ (pos 1000000)) (pos 1000000) p.y in
    let z = between-tested (neg_ℤ (pos 60000)) (pos 3600000) p.z in
    let in_y = is_between (neg_ℤ (pos 1000000)) (pos 1000000) p.y in
    let in_z = is_between (neg_ℤ (pos 60000)) (pos 3600000) p.z in
    Decides-like (is_in_box p) (λ all. record { x = all.0; y = all.1.0; z = all.1.1 }) (λ box. (box.x, (box.y, box.z)))
    (Decides-and (is_between (neg_ℤ (pos 1000000)) (pos 1000000) p.x) (in_y && in_z) x (Decides-and in_y in_z y z))

-- A test of all numbers of a range.
range-tested : (test : ℕ → Bool) (P : ℕ → Type 0) → ((k : ℕ) → Decides (test k) (P k)) → (a n : ℕ) → Decides (list_all test (range_with_len a n)) ((k : ℕ) → a ≤ k → k < a + n → P k)
range-tested test P each a n =
    let xs = range_with_len a n in
    Decides-like (list_all test xs)
    (λ all k low high.
    let here : get_or xs (k - a) 0 ≡ k = get_or-range_with_len a n (k - a) 0 (omega arith) ∙ omega arith in
    subst P here (all (k - a) 0 (omega (arith, length-range_with_len a n))))
    (λ all i d h. subst P (sym (get_or-range_with_len a n i d (omega (arith, h, length-range_with_len a n)))) (all (a + i) (omega arith) (omega (arith, h, length-range_with_len a n))))
    (Decides-by_and test P (list_all test) each refl (λ _ _. refl) xs)

cycles-tested : (e : Parts) (craft : ℕ)
    → Decides (list_all (λ cycle. is_in_box (position e craft cycle)) (range_with_len 1 e.cycles)) ((cycle : ℕ) → 1 ≤ cycle → cycle < 1 + e.cycles → IsInBox (position e craft cycle))
cycles-tested e craft = range-tested (λ cycle. is_in_box (position e craft cycle)) (λ cycle. IsInBox (position e craft cycle)) (λ cycle. box-tested (position e craft cycle)) 1 e.cycles

-- The test says what the box says.
pub stays-inside : (e : Parts) → IsTrue (stays_inside e) ↔ IsInside e
unfolding stays_inside
stays-inside e =
    let both =
    range-tested (λ craft. list_all (λ cycle. is_in_box (position e craft cycle)) (range_with_len 1 e.cycles))
    (λ craft. (cycle : ℕ) → 1 ≤ cycle → cycle < 1 + e.cycles → IsInBox (position e craft cycle)) (cycles-tested e) 0 (length e.crafts) in (
      λ stays craft cycle within first last. both.0 stays craft (omega arith) (omega arith) cycle first (omega arith),
      λ inside. both.1 (λ craft low within cycle first last. inside craft cycle (omega arith) first (omega arith)),
    )
