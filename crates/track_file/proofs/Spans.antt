-- The points of a track around a time.
use Rattle.std.proofs.Common.{◌≡◌, ℕ, zero, suc, ◌-◌, ◌<◌, ◌≤◌, ℤ, pos, Bool, true, false, List, [], ◌∷◌, length, get_or, reverse, Some, refl, ap, ◌∙◌, arith, inl, inr, add-one, rules, subst, FitsSigned, w32, to_z, of_z}
use Rattle.std.specs.Prelude.{◌<ℤ◌, ◌≤ℤ◌, find, int_le}
use Rattle.std.specs.Bool.{Decides}
use Rattle.std.specs.List.{list_any}
use Rattle.std.specs.List.Sorted.{IsPartitionPoint, IsPartitionedBy}
use Rattle.std.proofs.lemmas.Bool.{both_ways, cases_lt, false≢true, false_from_ne_true, or_cases}
use Rattle.std.proofs.lemmas.Int.{ints, to_z-of_z}
use Rattle.std.proofs.lemmas.List.{get_or-reverse, length-reverse}
use Rattle.track_file.specs.Track.{IsTrack, first_from, is_by, is_from, last_by}
use Rattle.track_file.specs.declared.track.Point.{Point}

pub order-tested : (a b : ℤ) → Decides (int_le a b) (a ≤ℤ b)
order-tested a b = search rules

-- Later points have later times.
pub rises : (points : List Point) (i j : ℕ) (d : Point) → IsTrack points → i < j → j < length points → (get_or points i d).ms <ℤ (get_or points j d).ms
rises points i zero d track order within = absurd (omega arith)
rises points i (suc m) d track order within =
    let next : (get_or points m d).ms <ℤ (get_or points (suc m) d).ms = rw add-one at (track.rising m d (omega arith)) in
    elim (cases_lt i m) [
      | inl h ↦ let earlier = rises points i m d track h (omega arith) in omega (arith, ints, earlier, next)
      | inr h ↦ let same : i ≡ m = omega arith in rw same next
    ]

pub parts-by : (points : List Point) (time : ℤ) → IsTrack points → IsPartitionedBy (is_by time) points
parts-by points time track i j d order within passes = elim (cases_lt i j) [
  | inl h ↦
      let later : (get_or points j d).ms ≤ℤ time = (order-tested (get_or points j d).ms time).0 passes in
      let rise = rises points i j d track h within in
      (order-tested (get_or points i d).ms time).1 (omega (arith, ints, later, rise))
  | inr h ↦ let same : i ≡ j = omega arith in rw same passes
]

-- The first element that passes.
find-at : {X : Type 0} (test : X → Bool) (xs : List X) (n : ℕ) (d : X) → n < length xs → ((k : ℕ) → k < n → test (get_or xs k d) ≡ false) → test (get_or xs n d) ≡ true → find test xs ≡ Some (get_or xs n d)
find-at test [] n d within earlier here = absurd (omega arith)
find-at test (x ∷ xs) zero d within earlier here = rw here refl
find-at test (x ∷ xs) (suc n) d within earlier here = rw (earlier 0 (omega arith)) (find-at test xs n d (omega arith) (λ k h. earlier (suc k) (omega arith)) here)

-- Some element passes.
pub any-at : {X : Type 0} (test : X → Bool) (xs : List X) (d : X) → list_any test xs ≡ true → (k : ℕ) × ((k < length xs) × (test (get_or xs k d) ≡ true))
any-at test [] d some = absurd (false≢true some)
any-at test (x ∷ xs) d some = elim (or_cases (test x) (list_any test xs) some) [
  | inl h ↦ (0, (omega arith, h))
  | inr h ↦ let rest = any-at test xs d h in (suc rest.0, (omega (arith, rest.1.0), rest.1.1))
]

-- How many points are at a time or before it.
abbrev pub PartedBy : List Point → ℤ → ℕ → Type 0
PartedBy points time n = IsPartitionPoint (λ p. is_by time p ≡ true) (λ p. is_by time p ≡ false) points n

pub some-by : (points : List Point) (time : ℤ) (n : ℕ) → Point → PartedBy points time n → list_any (is_by time) points ≡ true → 1 ≤ n
some-by points time n d parted some =
    let one = any-at (is_by time) points d some in
    elim (cases_lt one.0 n) [
      | inl h ↦ omega (arith, h)
      | inr h ↦ absurd (both_ways (is_by time (get_or points one.0 d)) (parted.1 one.0 d h one.1.0) one.1.1)
    ]

pub by-last : (points : List Point) (time : ℤ) (n : ℕ) (d : Point) → PartedBy points time n → 1 ≤ n → (get_or points (n - 1) d).ms ≤ℤ time
by-last points time n d parted some = (order-tested (get_or points (n - 1) d).ms time).0 (parted.0 (n - 1) d (omega arith) (omega arith))

pub last-is : (points : List Point) (time : ℤ) (n : ℕ) (d : Point) → PartedBy points time n → 1 ≤ n → n ≤ length points → last_by points time ≡ Some (get_or points (n - 1) d)
last-is points time n d parted some within =
    let m = length points - n in
    let there : m < length (reverse points) = omega (arith, length-reverse points) in
    let at : (k : ℕ) → k < length points → get_or (reverse points) k d ≡ get_or points (length points - 1 - k) d = λ k h. get_or-reverse points k d h in
    let here : get_or (reverse points) m d ≡ get_or points (n - 1) d = at m (omega arith) ∙ ap (λ i. get_or points i d) (index (length points) n some within) in
    find-at (is_by time) (reverse points) m d there
    (λ k h. ap (is_by time) (at k (omega arith)) ∙ parted.1 (length points - 1 - k) d (omega arith) (omega arith))
    (ap (is_by time) here ∙ parted.0 (n - 1) d (omega arith) (omega arith))
    ∙ ap Some here
  where
    index : (l n : ℕ) → 1 ≤ n → n ≤ l → l - 1 - (l - n) ≡ n - 1
    index l n some within = omega arith

-- Where the last point before a time is at the time, it is also the first one from then on.
pub first-same : (points : List Point) (time : ℤ) (n : ℕ) (d : Point) → IsTrack points → PartedBy points time n → 1 ≤ n → n ≤ length points → time ≤ℤ (get_or points (n - 1) d).ms
    → first_from points time ≡ Some (get_or points (n - 1) d)
first-same points time n d track parted some within same =
    let early = by-last points time n d parted some in
    find-at (is_from time) points (n - 1) d (omega arith)
    (λ k h. false_from_ne_true (is_from time (get_or points k d)) (λ e.
    let late : time ≤ℤ (get_or points k d).ms = (order-tested time (get_or points k d).ms).0 e in
    let rise = rises points k (n - 1) d track h (omega arith) in
    omega (arith, ints, late, rise, early)))
    ((order-tested time (get_or points (n - 1) d).ms).1 same)

-- Else it is the next one.
pub next-there : (points : List Point) (time : ℤ) (n : ℕ) (d : Point) → IsTrack points → PartedBy points time n → 1 ≤ n → n ≤ length points → (get_or points (n - 1) d).ms <ℤ time
    → list_any (is_from time) points ≡ true → n < length points
next-there points time n d track parted some within other from =
    let one = any-at (is_from time) points d from in
    let late : time ≤ℤ (get_or points one.0 d).ms = (order-tested time (get_or points one.0 d).ms).0 one.1.1 in
    elim (cases_lt n (length points)) [
      | inl h ↦ h
      | inr h ↦
          let early = by-last points time n d parted some in
          elim (cases_lt one.0 (n - 1)) [
            | inl g ↦ let rise = rises points one.0 (n - 1) d track g (omega arith) in absurd (omega (arith, ints, late, early, rise))
            | inr g ↦
                let same : one.0 ≡ n - 1 = omega (arith, g, one.1.0, h) in
                let late' : time ≤ℤ (get_or points (n - 1) d).ms = rw same at late in
                absurd (omega (arith, ints, late', other))
          ]
    ]

pub next-late : (points : List Point) (time : ℤ) (n : ℕ) (d : Point) → PartedBy points time n → n < length points → time ≤ℤ (get_or points n d).ms
next-late points time n d parted within =
    let not_by : is_by time (get_or points n d) ≡ false = parted.1 n d (omega arith) within in
    grind (arith, ints, not_by)

pub first-next : (points : List Point) (time : ℤ) (n : ℕ) (d : Point) → IsTrack points → PartedBy points time n → 1 ≤ n → n < length points → (get_or points (n - 1) d).ms <ℤ time
    → first_from points time ≡ Some (get_or points n d)
first-next points time n d track parted some within other =
    let early = by-last points time n d parted some in
    find-at (is_from time) points n d within
    (λ k h. false_from_ne_true (is_from time (get_or points k d)) (λ e.
    let late : time ≤ℤ (get_or points k d).ms = (order-tested time (get_or points k d).ms).0 e in
    elim (cases_lt k (n - 1)) [
      | inl g ↦ let rise = rises points k (n - 1) d track g (omega arith) in omega (arith, ints, late, rise, early)
      | inr g ↦
          let same : k ≡ n - 1 = omega arith in
          let late' : time ≤ℤ (get_or points (n - 1) d).ms = rw same at late in
          omega (arith, ints, late', other)
    ]))
    ((order-tested time (get_or points n d).ms).1 (next-late points time n d parted within))

-- The point that a read past a track gives.
abbrev pub any-point : Point
any-point = record { ms = pos 0; x = pos 0; y = pos 0; z = pos 0 }

-- A time that fits its type stands for itself.
pub plain-by : (points : List Point) (time : ℤ) (n : ℕ) → FitsSigned w32 time → PartedBy points (to_z w32 (of_z w32 time)) n → PartedBy points time n
plain-by points time n fits parted = subst (λ t. PartedBy points t n) (to_z-of_z w32 time fits) parted
