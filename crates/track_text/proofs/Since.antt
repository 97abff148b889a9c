-- The last point of a track, and a point that is added behind it.
use Rattle.std.proofs.Common.{◌≡◌, ◌+◌, ◌-◌, ◌≤◌, ℤ, Bool, true, false, List, [], ◌∷◌, ◌++◌, length, get_or, arith, inl, inr, refl, sym, ◌∙◌, subst, length-append}
use Rattle.std.specs.Prelude.{◌<ℤ◌, ◌≤ℤ◌, int_le}
use Rattle.std.specs.List.{AllAdjacentBelow, list_any}
use Rattle.std.proofs.lemmas.Bool.{both_ways, cases_lt}
use Rattle.std.proofs.lemmas.Int.{ints}
use Rattle.std.proofs.lemmas.List.Elements.{All-push}
use Rattle.std.proofs.lemmas.List.Folds.{list_any_at}
use Rattle.std.proofs.lemmas.List.{get_or_push}
use Rattle.std.proofs.Math.ListN.{get_or-append}
use Rattle.track_file.specs.Track.{IsPoint, IsTrack, is_from}
use Rattle.track_file.specs.declared.track.Point.{Point}
use Rattle.track_file.proofs.Spans.{any-at, order-tested, rises}

none-since : (points : List Point) (time : ℤ) (d : Point) (b : Bool) → IsTrack points → 1 ≤ length points → int_le time (get_or points (length points - 1) d).ms ≡ false → list_any (is_from time) points ≡ b → b ≡ false
none-since points time d false track some late is = refl
none-since points time d true track some late is =
    let one = any-at (is_from time) points d is in
    let before : time ≤ℤ (get_or points one.0 d).ms = (order-tested time (get_or points one.0 d).ms).0 one.1.1 in
    let last : time ≤ℤ (get_or points (length points - 1) d).ms = elim (cases_lt one.0 (length points - 1)) [
      | inl h ↦ let rise = rises points one.0 (length points - 1) d track h (omega (arith, some)) in omega (arith, ints, before, rise)
      | inr h ↦ let same : one.0 ≡ length points - 1 = omega (arith, h, one.1.0) in subst (λ n. time ≤ℤ (get_or points n d).ms) same before
    ] in
    absurd (both_ways _ late ((order-tested time (get_or points (length points - 1) d).ms).1 last))

-- Some point of a track is at a time or after it where the last one is.
pub last-since : (points : List Point) (time : ℤ) (d : Point) → IsTrack points → 1 ≤ length points → int_le time (get_or points (length points - 1) d).ms ≡ list_any (is_from time) points
last-since points time d track some = at (int_le time (get_or points (length points - 1) d).ms) refl where
  at : (b : Bool) → int_le time (get_or points (length points - 1) d).ms ≡ b → b ≡ list_any (is_from time) points
  at true is = sym (list_any_at (is_from time) points (length points - 1) d (omega (arith, some)) is)
  at false is = sym (none-since points time d (list_any (is_from time) points) track some is refl)

not-late : (points : List Point) (p d : Point) → IsTrack points → 1 ≤ length points → list_any (is_from p.ms) points ≡ false → (get_or points (length points - 1) d).ms <ℤ p.ms
not-late points p d track some late =
    let test = last-since points p.ms d track some ∙ late in
    let no : (p.ms ≤ℤ (get_or points (length points - 1) d).ms) → ⊥ = λ h. both_ways _ test ((order-tested p.ms (get_or points (length points - 1) d).ms).1 h) in
    omega (arith, ints, no)

-- A later point may follow.
pub track-push : (points : List Point) (p : Point) → IsTrack points → IsPoint p → list_any (is_from p.ms) points ≡ false → IsTrack (points ++ p ∷ [])
track-push points p track fits late = record {
  ranges = All-push IsPoint points p track.ranges fits;
  rising = rising;
} where
  rising : AllAdjacentBelow (λ (a b : Point). a.ms <ℤ b.ms) (points ++ p ∷ []) (length (points ++ p ∷ []))
  rising k d within = elim (cases_lt (k + 1) (length points)) [
    | inl h ↦ rw (get_or-append points (p ∷ []) d k (omega (arith, h)), get_or-append points (p ∷ []) d (k + 1) h) (track.rising k d h)
    | inr h ↦
        let end : k + 1 ≡ length points = omega (arith, h, within, length-append points (p ∷ [])) in
        let place : length points - 1 ≡ k = omega (arith, end) in
        let before : (get_or points k d).ms <ℤ p.ms = subst (λ n. (get_or points n d).ms <ℤ p.ms) place (not-late points p d track (omega (arith, end)) late) in
        rw (get_or-append points (p ∷ []) d k (omega (arith, end)), get_or_push points p d (k + 1) (sym end)) before
  ]
