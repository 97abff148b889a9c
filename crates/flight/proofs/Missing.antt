-- Misses in their order.
use Rattle.std.proofs.Common.{◌≡◌, ℕ, zero, suc, ◌<◌, ◌≤◌, Bool, true, false, List, [], ◌∷◌, length, get_or, refl, sym, ◌∙◌, arith, add-one, inl, inr}
use Rattle.std.specs.Prelude.{All, ◌==◌, ◌&&◌, ◌||◌, nat_le}
use Rattle.std.specs.List.{list_any}
use Rattle.std.specs.List.Sorted.{IsPartitionedBy, IsPartitionPoint}
use Rattle.std.proofs.lemmas.Bool.{cases_lt}
use Rattle.std.proofs.lemmas.Bool.Decides.{nat_tests}
use Rattle.std.proofs.lemmas.List.{get_or_default}
use Rattle.std.proofs.lemmas.List.Folds.{list_any_at, list_any_none}
use Rattle.acas_base.proofs.KeyOrder.{below-trans}
use Rattle.acas_base.specs.Order.{IsRising, is_below, miss_below}
use Rattle.acas_base.specs.declared.craft.Miss.{Miss}
use Rattle.flight.specs.Measurement.{covers, is_of_own, lasts_in}

-- No miss ends before it begins.
abbrev pub AreOrdered : List Miss → Type 0
AreOrdered misses = All (λ (miss : Miss). miss.from ≤ miss.to) misses

raise : (a b c d e f g : ℕ) → is_below (a, b, c) (d, e, f) ≡ true → f ≤ g → is_below (a, b, c) (d, e, g) ≡ true
raise a b c d e f g below order = grind (arith, nat_tests)

-- Each miss is over before all those after it.
pub misses-apart : (misses : List Miss) → IsRising miss_below misses → AreOrdered misses
    → (i j : ℕ) (d : Miss) → i < j → j < length misses → miss_below (get_or misses i d) (get_or misses j d) ≡ true
misses-apart misses rising ordered i zero d order within = absurd (omega arith)
misses-apart misses rising ordered i (suc m) d order within =
    let next : miss_below (get_or misses m d) (get_or misses (suc m) d) ≡ true = rw add-one at (rising m d (omega arith)) in
    elim (cases_lt i m) [
      | inl h ↦
          let a = get_or misses i d in
          let b = get_or misses m d in
          let c = get_or misses (suc m) d in
          let earlier = misses-apart misses rising ordered i m d h (omega arith) in
          below-trans a.own a.target a.to b.own b.target b.to c.own c.target c.from
          (raise a.own a.target a.to b.own b.target b.from b.to earlier (ordered m d (omega arith))) next
      | inr h ↦ let same : i ≡ m = omega arith in rw same next
    ]

-- The misses that are over stand in front.
pub misses-parted : (misses : List Miss) (own target cycle : ℕ) → IsRising miss_below misses → AreOrdered misses
    → IsPartitionedBy (λ (m : Miss). is_below (m.own, m.target, m.to) (own, target, cycle)) misses
misses-parted misses own target cycle rising ordered i j d order within low = elim (cases_lt i j) [
  | inl h ↦
      let a = get_or misses i d in
      let b = get_or misses j d in
      below-trans a.own a.target a.to b.own b.target b.to own target cycle
      (raise a.own a.target a.to b.own b.target b.from b.to (misses-apart misses rising ordered i j d h within) (ordered j d within)) low
  | inr h ↦ let same : i ≡ j = omega arith in rw same low
]

abbrev pub PartedAt : List Miss → ℕ → ℕ → ℕ → ℕ → Type 0
PartedAt misses own target cycle n =
    IsPartitionPoint (λ (m : Miss). is_below (m.own, m.target, m.to) (own, target, cycle) ≡ true) (λ (m : Miss). is_below (m.own, m.target, m.to) (own, target, cycle) ≡ false) misses n

over-uncovers : (a b c d e f g : ℕ) → is_below (a, b, c) (e, f, g) ≡ true → ((a == e && b == f) && (nat_le d g && nat_le g c)) ≡ false
over-uncovers a b c d e f g over = grind (arith, nat_tests)

front-uncovers : (misses : List Miss) (own target cycle n : ℕ) → PartedAt misses own target cycle n → (k : ℕ) (d : Miss) → k < n → k < length misses → covers own target cycle (get_or misses k d) ≡ false
front-uncovers misses own target cycle n parted k d h within =
    let m = get_or misses k d in
    over-uncovers m.own m.target m.to m.from own target cycle (parted.0 k d (omega arith) h)

-- What begins after a miss that isn't over begins too late.
late-uncovers : (a b c d e f g h i j : ℕ) → is_below (a, b, c) (d, e, f) ≡ true → is_below (a, b, c) (h, i, j) ≡ false → ((d == h && e == i) && (nat_le f j && nat_le j g)) ≡ false
late-uncovers a b c d e f g h i j apart lasting = grind (arith, nat_tests)

behind-uncovers : (misses : List Miss) (own target cycle n : ℕ) → IsRising miss_below misses → AreOrdered misses → PartedAt misses own target cycle n
    → (k : ℕ) (d : Miss) → n < k → k < length misses → covers own target cycle (get_or misses k d) ≡ false
behind-uncovers misses own target cycle n rising ordered parted k d h within =
    let a = get_or misses n d in
    let b = get_or misses k d in
    late-uncovers a.own a.target a.to b.own b.target b.from b.to own target cycle
    (misses-apart misses rising ordered n k d h within) (parted.1 n d (omega arith) (omega arith))

-- Only the miss at the place can cover the cycle.
pub covered-at : (misses : List Miss) (own target cycle n : ℕ) (d : Miss) → IsRising miss_below misses → AreOrdered misses → PartedAt misses own target cycle n → n < length misses
    → covers own target cycle (get_or misses n d) ≡ list_any (covers own target cycle) misses
covered-at misses own target cycle n d rising ordered parted within = cases (covers own target cycle (get_or misses n d)) refl where
  each : covers own target cycle (get_or misses n d) ≡ false → (k : ℕ) (e : Miss) → k < length misses → covers own target cycle (get_or misses k e) ≡ false
  each off k e h = elim (cases_lt k n) [
    | inl g ↦ front-uncovers misses own target cycle n parted k e g h
    | inr g ↦ elim (cases_lt n k) [
      | inl f ↦ behind-uncovers misses own target cycle n rising ordered parted k e f h
      | inr f ↦
          let same : k ≡ n = omega arith in
          let one : covers own target cycle (get_or misses n e) ≡ false = rw (get_or_default misses n e d within) off in
          rw same one
    ]
  ]

  cases : (b : Bool) → covers own target cycle (get_or misses n d) ≡ b → covers own target cycle (get_or misses n d) ≡ list_any (covers own target cycle) misses
  cases true on = on ∙ sym (list_any_at (covers own target cycle) misses n d within on)
  cases false off = off ∙ sym (list_any_none (covers own target cycle) misses (each off))

-- Where all are over, none covers it.
pub covered-none : (misses : List Miss) (own target cycle n : ℕ) → PartedAt misses own target cycle n → length misses ≤ n → list_any (covers own target cycle) misses ≡ false
covered-none misses own target cycle n parted past =
    list_any_none (covers own target cycle) misses (λ k d h. front-uncovers misses own target cycle n parted k d (omega arith) h)

-- Where no miss of an own aircraft lasts in a cycle, none of its targets is covered.
pub none-covers : (misses : List Miss) (own target cycle : ℕ) → list_any (is_of_own own cycle) misses ≡ false → list_any (covers own target cycle) misses ≡ false
none-covers [] own target cycle none = refl
none-covers (miss ∷ rest) own target cycle none =
    by_test (miss.own == own) (miss.target == target) (lasts_in cycle miss) (list_any (covers own target cycle) rest) (list_any (is_of_own own cycle) rest) none
    (none-covers rest own target cycle)
  where
    by_test : (one other lasts covered marked : Bool) → ((one && lasts) || marked) ≡ false → (marked ≡ false → covered ≡ false) → (((one && other) && lasts) || covered) ≡ false
    by_test false other lasts covered marked h f = f h
    by_test true other true covered marked h f = absurd (cc h)
    by_test true false false covered marked h f = f h
    by_test true true false covered marked h f = f h
