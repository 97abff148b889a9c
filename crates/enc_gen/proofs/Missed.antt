-- The misses of a generated encounter.
use Rattle.std.proofs.Common.{◌≡◌, ◌≢◌, ℕ, ◌<◌, Bool, true, false, List, length, arith, refl}
use Rattle.std.specs.Prelude.{All, AllPairs, IsTrue, ◌==◌, not, if◌then◌else◌}
use Rattle.std.proofs.lemmas.Bool.Decides.{nat_tests}
use Rattle.std.proofs.lemmas.List.Elements.{All-nil}
use Rattle.acas_base.specs.Encounter.{AreListed, IsMiss}
use Rattle.acas_base.specs.Order.{is_below, miss_below}
use Rattle.acas_base.specs.Ranges.{IsCycle}
use Rattle.acas_base.specs.declared.craft.CraftSpec.{CraftSpec}
use Rattle.acas_base.specs.declared.craft.Miss.{Miss}
use Rattle.enc_gen.proofs.Each.{all-one, each-all, each-pairs, only-all, only-pairs, pairs-none, pairs-one, rising-pairs}
use Rattle.enc_gen.proofs.Legs.{later-pair}
use Rattle.enc_gen.proofs.Numbers.{number-small}
use Rattle.enc_gen.specs.Draws.{next_state, number_below}
use Rattle.enc_gen.specs.Making.{each, nothing}
use Rattle.acas_base.specs.Encounter.{is_active_at}
use Rattle.enc_gen.specs.Misses.{miss, misses, own_misses, pair_miss, some_miss}

-- What is true of the miss that may be drawn.
miss-all : (P : Miss → Type 0) (cycles own target s : ℕ) → ((t : ℕ) → All P (some_miss cycles own target t).items) → All P (miss cycles own target s).items
unfolding miss
miss-all P cycles own target s all = by_test (number_below 4 (next_state s) == 0) where
  by_test : (b : Bool) → All P (if b then some_miss cycles own target (next_state s) else nothing (next_state s)).items
  by_test true = all (next_state s)
  by_test false = All-nil P

miss-alone : (R : Miss → Miss → Type 0) (cycles own target s : ℕ) → AllPairs R (miss cycles own target s).items
unfolding miss
miss-alone R cycles own target s = by_test (number_below 4 (next_state s) == 0) where
  by_test : (b : Bool) → AllPairs R (if b then some_miss cycles own target (next_state s) else nothing (next_state s)).items
  by_test true = pairs-one R _
  by_test false = pairs-none R

distinct : (a b : ℕ) → IsTrue (not (a == b)) → b ≢ a
distinct a b h = grind (arith, nat_tests)

miss-fits : (count cycles own target : ℕ) → IsCycle cycles → own < count → target < count → own ≢ target → (t : ℕ) → All (IsMiss count) (some_miss cycles own target t).items
miss-fits count cycles own target run first second two t =
    let n = number_below cycles (next_state t) in
    let m = number_below 8 (next_state (next_state t)) in
    let small : n < cycles = number-small cycles (next_state t) (omega (arith, run.0)) in
    all-one (IsMiss count) _ (record {
      pair = record { first = first; second = second; apart = two };
      from = (omega arith, omega (arith, small, run.1));
      to = (omega (arith, run.0), omega (arith, run.1));
      order = omega (arith, small);
    })

pair-fits : (count cycles own target : ℕ) → IsCycle cycles → own < count → target < count → (s : ℕ) → All (IsMiss count) (pair_miss cycles own target s).items
pair-fits count cycles own target run first second s =
    only-all (IsMiss count) (not (target == own)) (miss cycles own target) s
    (λ two. miss-all (IsMiss count) cycles own target s (miss-fits count cycles own target run first second (distinct target own two)))

-- Of an own aircraft, and of a pair.
abbrev OfOwn : ℕ → Miss → Type 0
OfOwn own m = m.own ≡ own

abbrev OfPair : ℕ → ℕ → Miss → Type 0
OfPair own target m = (m.own ≡ own) × (m.target ≡ target)

abbrev AreBelow : Miss → Miss → Type 0
AreBelow a b = miss_below a b ≡ true

pair-of : (cycles own target s : ℕ) → All (OfPair own target) (pair_miss cycles own target s).items
pair-of cycles own target s =
    only-all (OfPair own target) (not (target == own)) (miss cycles own target) s
    (λ two. miss-all (OfPair own target) cycles own target s (λ t. all-one (OfPair own target) _ (refl, refl)))

pair-cross : (own i j : ℕ) (x y : Miss) → i < j → OfPair own i x → OfPair own j y → AreBelow x y
pair-cross own i j x y h e f = later-target x.own x.target x.to y.own y.target y.from (omega (arith, e.0, f.0)) (omega (arith, e.1, f.1)) where
  later-target : (a b c d e f : ℕ) → a ≡ d → b < e → is_below (a, b, c) (d, e, f) ≡ true
  later-target a b c d e f same h = grind (arith, nat_tests)

own-of : (crafts : List CraftSpec) (cycles own s : ℕ) → All (OfOwn own) (own_misses crafts cycles own s).items
own-of crafts cycles own s =
    only-all (OfOwn own) (is_active_at crafts own) (each (pair_miss cycles own) (length crafts)) s
    (λ on. each-all (OfOwn own) (pair_miss cycles own) (length crafts) s (λ i t h k d g. (pair-of cycles own i t k d g).0))

own-pairs : (crafts : List CraftSpec) (cycles own s : ℕ) → AllPairs AreBelow (own_misses crafts cycles own s).items
own-pairs crafts cycles own s =
    only-pairs AreBelow (is_active_at crafts own) (each (pair_miss cycles own) (length crafts)) s
    (each-pairs AreBelow (OfPair own) (pair_miss cycles own) (length crafts) s (pair-cross own) (pair-of cycles own)
    (λ target t. only-pairs AreBelow (not (target == own)) (miss cycles own target) t (miss-alone AreBelow cycles own target t)))

pub misses-listed : (crafts : List CraftSpec) (cycles s : ℕ) → IsCycle cycles → AreListed IsMiss miss_below (length crafts) (misses crafts cycles s).items
misses-listed crafts cycles s run = (
  each-all (IsMiss (length crafts)) (own_misses crafts cycles) (length crafts) s
      (λ own t h. only-all (IsMiss (length crafts)) (is_active_at crafts own) (each (pair_miss cycles own) (length crafts)) t
      (λ on. each-all (IsMiss (length crafts)) (pair_miss cycles own) (length crafts) t (λ target u g. pair-fits (length crafts) cycles own target run h g u))),
  rising-pairs miss_below (misses crafts cycles s).items
      (each-pairs AreBelow OfOwn (own_misses crafts cycles) (length crafts) s
      (λ i j x y h e f. later-pair x.own x.target x.to y.own y.target y.from (omega (arith, e, f))) (own-of crafts cycles) (own-pairs crafts cycles)),
)
