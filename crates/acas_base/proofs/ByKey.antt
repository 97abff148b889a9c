-- Records in the order of their keys.
use Rattle.std.proofs.Common.{◌≡◌, ℕ, ◌<◌, ◌≤◌, true, false, List, length, get_or, arith, inl, inr, Some, None, ◌∙◌, sym, ap}
use Rattle.std.specs.Prelude.{find}
use Rattle.std.specs.List.Sorted.{IsPartitionedBy, IsPartitionPoint}
use Rattle.std.proofs.lemmas.Bool.{cases_lt}
use Rattle.std.proofs.lemmas.List.{get_or_default}
use Rattle.acas_base.specs.Order.{IsRising, Key, below_by, has_key, is_below}
use Rattle.acas_base.proofs.Finding.{find-here, find-none}
use Rattle.acas_base.proofs.KeyOrder.{above-other, below-else, below-other, below-trans}
use Rattle.acas_base.proofs.Rising.{rising-pairs}

by-key-trans : {X : Type 0} (key_of : X → Key) (a b c : X) → below_by key_of a b ≡ true → below_by key_of b c ≡ true → below_by key_of a c ≡ true
by-key-trans key_of a b c one two = let x = key_of a in let y = key_of b in let z = key_of c in below-trans x.0 x.1 x.2 y.0 y.1 y.2 z.0 z.1 z.2 one two

-- The records below a key stand in front.
pub keys-parted : {X : Type 0} (key_of : X → Key) (xs : List X) (wanted : Key) → IsRising (below_by key_of) xs → IsPartitionedBy (λ x. is_below (key_of x) wanted) xs
keys-parted {X} key_of xs wanted rising i j d order within low = elim (cases_lt i j) [
  | inl h ↦
      let a = key_of (get_or xs i d) in
      let b = key_of (get_or xs j d) in
      below-trans a.0 a.1 a.2 b.0 b.1 b.2 wanted.0 wanted.1 wanted.2 (rising-pairs (below_by key_of) xs (by-key-trans key_of) rising i j d h within) low
  | inr h ↦ let same : i ≡ j = omega arith in rw same low
]

-- All records below a key stand in front of a place, and none that is stands behind it.
abbrev pub PartedAt : {X : Type 0} → (X → Key) → List X → Key → ℕ → Type 0
PartedAt {X} key_of xs wanted at = IsPartitionPoint (λ (x : X). is_below (key_of x) wanted ≡ true) (λ (x : X). is_below (key_of x) wanted ≡ false) xs at

-- A record in front of the place has another key.
front-other : {X : Type 0} (key_of : X → Key) (xs : List X) (wanted : Key) (at : ℕ) → PartedAt key_of xs wanted at → (k : ℕ) (d : X) → k < at → has_key key_of wanted (get_or xs k d) ≡ false
front-other key_of xs wanted at parted k d h =
    let a = key_of (get_or xs k d) in
    below-other a.0 a.1 a.2 wanted.0 wanted.1 wanted.2 (parted.0 k d (omega arith) h)

-- Where the place is the end, no record has the key.
pub none-at-end : {X : Type 0} (key_of : X → Key) (xs : List X) (wanted : Key) (at : ℕ) → PartedAt key_of xs wanted at → length xs ≤ at → find (has_key key_of wanted) xs ≡ None
none-at-end key_of xs wanted at parted end = find-none (has_key key_of wanted) xs (λ k d h. front-other key_of xs wanted at parted k d (omega arith))

-- Where the record at the place has the key, it is the first one.
pub found-at : {X : Type 0} (key_of : X → Key) (xs : List X) (wanted : Key) (at : ℕ) (x : X) → PartedAt key_of xs wanted at → at < length xs → x ≡ get_or xs at x → has_key key_of wanted x ≡ true → find (has_key key_of wanted) xs ≡ Some x
found-at key_of xs wanted at x parted within here is =
    find-here (has_key key_of wanted) xs at x within (ap (has_key key_of wanted) (sym here) ∙ is) (front-other key_of xs wanted at parted) ∙ ap Some (sym here)

-- Where it has another one, so have all behind it.
behind-other : {X : Type 0} (key_of : X → Key) (xs : List X) (wanted : Key) (at : ℕ) (d : X) → IsRising (below_by key_of) xs → PartedAt key_of xs wanted at → at < length xs → has_key key_of wanted (get_or xs at d) ≡ false
    → (k : ℕ) → at < k → k < length xs → has_key key_of wanted (get_or xs k d) ≡ false
behind-other key_of xs wanted at d rising parted within other k behind h =
    let a = key_of (get_or xs at d) in
    let b = key_of (get_or xs k d) in
    let above = below-else a.0 a.1 a.2 wanted.0 wanted.1 wanted.2 (parted.1 at d (omega arith) within) other in
    let next = rising-pairs (below_by key_of) xs (by-key-trans key_of) rising at k d behind h in
    above-other b.0 b.1 b.2 wanted.0 wanted.1 wanted.2 (below-trans wanted.0 wanted.1 wanted.2 a.0 a.1 a.2 b.0 b.1 b.2 above next)

-- So no record has the key.
pub none-at : {X : Type 0} (key_of : X → Key) (xs : List X) (wanted : Key) (at : ℕ) (x : X) → IsRising (below_by key_of) xs → PartedAt key_of xs wanted at → at < length xs → x ≡ get_or xs at x → has_key key_of wanted x ≡ false → find (has_key key_of wanted) xs ≡ None
none-at {X} key_of xs wanted at e rising parted within here was = find-none (has_key key_of wanted) xs each where
  each : (k : ℕ) (d : X) → k < length xs → has_key key_of wanted (get_or xs k d) ≡ false
  each k d h =
      let other : has_key key_of wanted (get_or xs at d) ≡ false = rw (get_or_default xs at d e within) (ap (has_key key_of wanted) (sym here) ∙ was) in
      elim (cases_lt k at) [
        | inl before ↦ front-other key_of xs wanted at parted k d before
        | inr after ↦ elim (cases_lt at k) [
          | inl behind ↦ behind-other key_of xs wanted at d rising parted within other k behind h
          | inr low ↦
              let same : k ≡ at = omega arith in
              rw same other
        ]
      ]
