-- A track that covers a run covers each of its cycles.
use Rattle.std.proofs.Common.{◌≡◌, ℕ, zero, suc, ◌-◌, ◌<◌, ◌≤◌, pos, Bool, true, List, [], ◌∷◌, length, get_or, reverse, refl, ap, ◌∙◌, arith, inl, inr}
use Rattle.std.specs.Prelude.{IsSome, ◌≤ℤ◌, find}
use Rattle.std.specs.List.{list_any}
use Rattle.std.proofs.lemmas.Bool.{and_parts, cases_Bool, false≢true, or_left, or_right}
use Rattle.std.proofs.lemmas.Int.{ints}
use Rattle.std.proofs.lemmas.List.{get_or-reverse, length-reverse}
use Rattle.track_file.proofs.Spans.{any-at, any-point, order-tested}
use Rattle.track_file.specs.Track.{IsCovered, covers, first_from, is_by, is_from, last_by, time_of}
use Rattle.track_file.specs.declared.track.Point.{Point}

any-there : {X : Type 0} (test : X → Bool) (xs : List X) (k : ℕ) (d : X) → k < length xs → test (get_or xs k d) ≡ true → list_any test xs ≡ true
any-there test [] k d within passes = absurd (omega arith)
any-there test (x ∷ xs) zero d within passes = or_left (test x) (list_any test xs) passes
any-there test (x ∷ xs) (suc k) d within passes = or_right (test x) (list_any test xs) (any-there test xs k d (omega arith) passes)

pub covered-at : (points : List Point) (cycles cycle : ℕ) → 1 ≤ cycle → cycle ≤ cycles → covers points cycles ≡ true → IsCovered points cycle
covered-at points cycles cycle first last covered =
    let both = and_parts (list_any (is_by (pos 0)) points) (list_any (is_from (time_of cycles)) points) covered in
    let early = any-at (is_by (pos 0)) points any-point both.0 in
    let late = any-at (is_from (time_of cycles)) points any-point both.1 in
    let a = get_or points early.0 any-point in
    let b = get_or points late.0 any-point in
    let begun : a.ms ≤ℤ pos 0 = (order-tested a.ms (pos 0)).0 early.1.1 in
    let ended : time_of cycles ≤ℤ b.ms = (order-tested (time_of cycles) b.ms).0 late.1.1 in
    record {
      some_by = any-there (is_by (time_of cycle)) points early.0 any-point early.1.0 ((order-tested a.ms (time_of cycle)).1 (omega (arith, ints, begun)));
      some_from = any-there (is_from (time_of cycle)) points late.0 any-point late.1.0 ((order-tested (time_of cycle) b.ms).1 (omega (arith, ints, ended, first, last)));
    }

find-some : {X : Type 0} (test : X → Bool) (xs : List X) → list_any test xs ≡ true → IsSome (find test xs)
find-some test [] some = absurd (false≢true some)
find-some test (x ∷ xs) some = elim (cases_Bool (test x)) [
  | inl h ↦ rw h refl
  | inr h ↦ rw h (find-some test xs (rw h at some))
]

-- In each cycle that is covered there are points around it.
pub around-covered : (points : List Point) (cycle : ℕ) → IsCovered points cycle → IsSome (last_by points (time_of cycle)) × IsSome (first_from points (time_of cycle))
around-covered points cycle covered = (
  (let one = any-at (is_by (time_of cycle)) points any-point covered.some_by in
      let m = length points - 1 - one.0 in
      let back : get_or (reverse points) m any-point ≡ get_or points (length points - 1 - m) any-point = get_or-reverse points m any-point (omega (arith, one.1.0)) in
      let same : length points - 1 - m ≡ one.0 = index (length points) one.0 one.1.0 in
      find-some (is_by (time_of cycle)) (reverse points)
      (any-there (is_by (time_of cycle)) (reverse points) m any-point (omega (arith, one.1.0, length-reverse points)) (ap (is_by (time_of cycle)) (back ∙ ap (λ i. get_or points i any-point) same) ∙ one.1.1))),
  find-some (is_from (time_of cycle)) points covered.some_from,
) where
  index : (l k : ℕ) → k < l → l - 1 - (l - 1 - k) ≡ k
  index l k within = omega arith
