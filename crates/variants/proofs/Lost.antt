-- Exactly the messages of a loss are lost.
use Rattle.std.proofs.Common.{◌≡◌, ◌≢◌, ℕ, zero, suc, ◌+◌, ◌-◌, ◌<◌, ◌≤◌, Bool, true, false, List, ◌++◌, Option, Some, None, refl, ap, ◌∙◌, arith, inl, inr}
use Rattle.std.specs.Prelude.{filter, find, map, unwrap_or}
use Rattle.std.specs.List.{range_with_len}
use Rattle.std.specs.Option.{option_or}
use Rattle.std.proofs.lemmas.Bool.{cases_Bool, cases_lt}
use Rattle.std.proofs.lemmas.Bool.Decides.{nat_tests}
use Rattle.std.proofs.lemmas.List.Folds.{find-append}
use Rattle.acas_base.specs.Encounter.{Parts}
use Rattle.acas_base.specs.Fates.{copies_of, fate_of, is_fate_of, usual_fate}
use Rattle.acas_base.specs.Order.{is_below}
use Rattle.acas_base.specs.declared.link.Fate.{Fate}
use Rattle.variants.proofs.Kept.{find-apart, find-within}
use Rattle.variants.specs.Losses.{IsLossy, IsLost, LosesThese, is_before, is_behind, lost_fate, lost_fates, with_losses}
use Rattle.variants.specs.declared.change.Loss.{Loss}

pub record Key (sender receiver number : ℕ) (fate : Fate) : Type 0 where
  pub sender_is : fate.sender ≡ sender
  pub receiver_is : fate.receiver ≡ receiver
  pub number_is : fate.number ≡ number

key-of : (sender receiver number : ℕ) (fate : Fate) → is_fate_of sender receiver number fate ≡ true → Key sender receiver number fate
key-of sender receiver number fate h = record { sender_is = grind (arith, nat_tests); receiver_is = grind (arith, nat_tests); number_is = grind (arith, nat_tests) }

is-key : (sender receiver number : ℕ) → is_fate_of sender receiver number (lost_fate sender receiver number) ≡ true
is-key sender receiver number = grind (arith, nat_tests)

other-number : (sender receiver number s r n : ℕ) → number ≢ n → is_fate_of sender receiver number (lost_fate s r n) ≡ false
other-number sender receiver number s r n apart = grind (arith, nat_tests)

-- No number of a row.
none-lost : (sender receiver number s r first count : ℕ) → ((n : ℕ) → first ≤ n → n < first + count → is_fate_of sender receiver number (lost_fate s r n) ≡ false)
    → find (is_fate_of sender receiver number) (map (lost_fate s r) (range_with_len first count)) ≡ None
none-lost sender receiver number s r first zero none = refl
none-lost sender receiver number s r first (suc count) none =
    rw (none first (omega arith) (omega arith)) (none-lost sender receiver number s r (first + 1) count (λ n low high. none n (omega arith) (omega arith)))

-- A number of a row.
one-lost : (s r number first count : ℕ) → first ≤ number → number < first + count → find (is_fate_of s r number) (map (lost_fate s r) (range_with_len first count)) ≡ Some (lost_fate s r number)
one-lost s r number first zero low high = absurd (omega arith)
one-lost s r number first (suc count) low high = elim (cases_lt first number) [
  | inl h ↦ rw (other-number s r number s r first (λ e. omega (arith, e, h))) (one-lost s r number (first + 1) count (omega arith) (omega arith))
  | inr h ↦ let same : first ≡ number = omega arith in rw (same, is-key s r number) refl
]

-- How keys lie to each other.
apart-below : (s r n t u a m : ℕ) → is_below (s, r, n) (t, u, a) ≡ true → a ≤ m → is_fate_of s r n (lost_fate t u m) ≡ false
apart-below s r n t u a m below late = grind (arith, nat_tests)

apart-above : (s r n t u b m : ℕ) → is_below (t, u, b) (s, r, n) ≡ true → m ≤ b → is_fate_of s r n (lost_fate t u m) ≡ false
apart-above s r n t u b m above early = grind (arith, nat_tests)

not-behind : (s r n t u a b : ℕ) → is_below (s, r, n) (t, u, a) ≡ true → a ≤ b → is_below (t, u, b) (s, r, n) ≡ false
not-behind s r n t u a b below order = grind (arith, nat_tests)

not-before : (s r n t u a b : ℕ) → is_below (t, u, b) (s, r, n) ≡ true → a ≤ b → is_below (s, r, n) (t, u, a) ≡ false
not-before s r n t u a b above order = grind (arith, nat_tests)

from-first : (s r n a : ℕ) → a ≤ n → is_below (s, r, n) (s, r, a) ≡ false
from-first s r n a late = grind (arith, nat_tests)

same-sender : (s r n t u a b : ℕ) → is_below (s, r, n) (t, u, a) ≡ false → is_below (t, u, b) (s, r, n) ≡ false → s ≡ t
same-sender s r n t u a b one two = grind (arith, nat_tests)

same-receiver : (s r n t u a b : ℕ) → is_below (s, r, n) (t, u, a) ≡ false → is_below (t, u, b) (s, r, n) ≡ false → r ≡ u
same-receiver s r n t u a b one two = grind (arith, nat_tests)

number-late : (s r n t u a b : ℕ) → is_below (s, r, n) (t, u, a) ≡ false → is_below (t, u, b) (s, r, n) ≡ false → a ≤ n
number-late s r n t u a b one two = grind (arith, nat_tests)

number-early : (s r n t u a b : ℕ) → is_below (s, r, n) (t, u, a) ≡ false → is_below (t, u, b) (s, r, n) ≡ false → n ≤ b
number-early s r n t u a b one two = grind (arith, nat_tests)

before-is : (s r n : ℕ) (loss : Loss) (fate : Fate) → is_fate_of s r n fate ≡ true → is_before loss fate ≡ is_below (s, r, n) (loss.sender, loss.receiver, loss.first)
before-is s r n loss fate h = let key = key-of s r n fate h in rw (key.sender_is, key.receiver_is, key.number_is) refl

behind-is : (s r n : ℕ) (loss : Loss) (fate : Fate) → is_fate_of s r n fate ≡ true → is_behind loss fate ≡ is_below (loss.sender, loss.receiver, loss.last) (s, r, n)
behind-is s r n loss fate h = let key = key-of s r n fate h in rw (key.sender_is, key.receiver_is, key.number_is) refl

split : (test : Fate → Bool) (xs ys zs : List Fate) → find test (xs ++ (ys ++ zs)) ≡ option_or (find test xs) (option_or (find test ys) (find test zs))
split test xs ys zs = find-append test xs (ys ++ zs) ∙ ap (option_or (find test xs)) (find-append test ys zs)

or-none : {X : Type 0} (o : Option X) → option_or o (option_or None None) ≡ o
or-none None = refl
or-none (Some x) = refl

-- A lost message is found among the lost ones.
found-lost : (s r n : ℕ) (loss : Loss) (fates : List Fate) → IsLost loss s r n → find (is_fate_of s r n) (with_losses loss fates) ≡ Some (lost_fate s r n)
found-lost s r n loss fates is =
    let test : Fate → Bool = is_fate_of s r n in
    let outside : is_below (s, r, n) (loss.sender, loss.receiver, loss.first) ≡ false = rw (← is.from, ← is.to) (from-first s r n loss.first is.first) in
    let before : find test (filter (is_before loss) fates) ≡ None = find-apart test (is_before loss) fates (λ fate h. before-is s r n loss fate h ∙ outside) in
    let there : find test (lost_fates loss) ≡ Some (lost_fate s r n) =
    rw (← is.from, ← is.to) (one-lost s r n loss.first ((loss.last + 1) - loss.first) is.first (omega (arith, is.first, is.last))) in
    split test (filter (is_before loss) fates) (lost_fates loss) (filter (is_behind loss) fates) ∙ rw (before, there) refl

-- Any other one is found as it was.
found-below : (s r n : ℕ) (loss : Loss) (fates : List Fate) → loss.first ≤ loss.last → is_below (s, r, n) (loss.sender, loss.receiver, loss.first) ≡ true
    → find (is_fate_of s r n) (with_losses loss fates) ≡ find (is_fate_of s r n) fates
found-below s r n loss fates order below =
    let test : Fate → Bool = is_fate_of s r n in
    let before : find test (filter (is_before loss) fates) ≡ find test fates = find-within test (is_before loss) fates (λ fate h. before-is s r n loss fate h ∙ below) in
    let lost : find test (lost_fates loss) ≡ None =
    none-lost s r n loss.sender loss.receiver loss.first ((loss.last + 1) - loss.first) (λ m low high. apart-below s r n loss.sender loss.receiver loss.first m below low) in
    let behind : find test (filter (is_behind loss) fates) ≡ None =
    find-apart test (is_behind loss) fates (λ fate h. behind-is s r n loss fate h ∙ not-behind s r n loss.sender loss.receiver loss.first loss.last below order) in
    split test (filter (is_before loss) fates) (lost_fates loss) (filter (is_behind loss) fates) ∙ rw (before, lost, behind) (or-none (find test fates))

found-above : (s r n : ℕ) (loss : Loss) (fates : List Fate) → loss.first ≤ loss.last → is_below (loss.sender, loss.receiver, loss.last) (s, r, n) ≡ true
    → find (is_fate_of s r n) (with_losses loss fates) ≡ find (is_fate_of s r n) fates
found-above s r n loss fates order above =
    let test : Fate → Bool = is_fate_of s r n in
    let before : find test (filter (is_before loss) fates) ≡ None =
    find-apart test (is_before loss) fates (λ fate h. before-is s r n loss fate h ∙ not-before s r n loss.sender loss.receiver loss.first loss.last above order) in
    let lost : find test (lost_fates loss) ≡ None =
    none-lost s r n loss.sender loss.receiver loss.first ((loss.last + 1) - loss.first) (λ m low high. apart-above s r n loss.sender loss.receiver loss.last m above (omega (arith, high, order))) in
    let behind : find test (filter (is_behind loss) fates) ≡ find test fates = find-within test (is_behind loss) fates (λ fate h. behind-is s r n loss fate h ∙ above) in
    split test (filter (is_before loss) fates) (lost_fates loss) (filter (is_behind loss) fates) ∙ rw (before, lost, behind) refl

found-kept : (s r n : ℕ) (loss : Loss) (fates : List Fate) → loss.first ≤ loss.last → (IsLost loss s r n → ⊥) → find (is_fate_of s r n) (with_losses loss fates) ≡ find (is_fate_of s r n) fates
found-kept s r n loss fates order other = elim (cases_Bool (is_below (s, r, n) (loss.sender, loss.receiver, loss.first))) [
  | inl h ↦ found-below s r n loss fates order h
  | inr h ↦ elim (cases_Bool (is_below (loss.sender, loss.receiver, loss.last) (s, r, n))) [
    | inl g ↦ found-above s r n loss fates order g
    | inr g ↦ absurd (other (record {
      from = same-sender s r n loss.sender loss.receiver loss.first loss.last h g;
      to = same-receiver s r n loss.sender loss.receiver loss.first loss.last h g;
      first = number-late s r n loss.sender loss.receiver loss.first loss.last h g;
      last = number-early s r n loss.sender loss.receiver loss.first loss.last h g;
    }))
  ]
]

fate-is : (d : Parts) (s r n : ℕ) (fates : List Fate) (found : Option Fate) → d.fates ≡ fates → find (is_fate_of s r n) fates ≡ found → fate_of d s r n ≡ unwrap_or found (usual_fate d s r n)
fate-is d s r n fates found is there = rw (is, there) refl

usual-kept : (d e : Parts) (s r n : ℕ) → d.plans ≡ e.plans → usual_fate d s r n ≡ usual_fate e s r n
usual-kept d e s r n plans = rw plans refl

pub loses-these : (e : Parts) (loss : Loss) (d : Parts) → IsLossy e loss d → LosesThese e loss d
loses-these e loss d is = record {
  lost = λ s r n h. ap copies_of (fate-is d s r n (with_losses loss e.fates) (Some (lost_fate s r n)) is.fates (found-lost s r n loss e.fates h));
  kept = λ s r n h.
      fate-is d s r n (with_losses loss e.fates) (find (is_fate_of s r n) e.fates) is.fates (found-kept s r n loss e.fates is.order h)
      ∙ ap (unwrap_or (find (is_fate_of s r n) e.fates)) (usual-kept d e s r n is.plans);
}
