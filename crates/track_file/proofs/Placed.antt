-- The rounded places of a track.
use Rattle.std.proofs.Common.{◌≡◌, ℕ, ◌<◌, ◌≤◌, ℤ, pos, neg_ℤ, ◌-ℤ◌, ◌*ℤ◌, List, Some, refl, ap, ◌∙◌, arith, subst, w32, w64, FitsSigned, to_z, of_z}
use Rattle.std.specs.Prelude.{unsigned_abs, ◌==◌}
use Rattle.std.proofs.lemmas.Bool.{cond_both}
use Rattle.std.proofs.lemmas.Int.{fits_signed_from_abs, ints, to_z-of_z}
use Rattle.acas_base.specs.Ranges.{IsBetween}
use Rattle.flight.specs.Inside.{IsInBox}
use Rattle.flight.specs.declared.place.Place.{Place}
use Rattle.track_file.proofs.Halves.{mean-above, near-only, nearest-near, rounded-between-bounds, whole-only}
use Rattle.track_file.specs.Rounding.{IsNear, mean, nearest}
use Rattle.track_file.specs.Track.{IsNearTrack, IsPoint, first_from, last_by, on_line, rounded, rounded_between, time_of, unit_of}
use Rattle.track_file.specs.declared.track.Point.{Point}

pub fits-within : (low high z : ℤ) → unsigned_abs low ≤ 4000000 → unsigned_abs high ≤ 4000000 → IsBetween low high z → FitsSigned w32 z
fits-within low high z small large within = fits_signed_from_abs w32 z (omega (arith, ints, small, large, within.0, within.1))

-- One coordinate, as the code has it and as it is.
pub coordinate-is : (r t va vb a b : ℤ) (unit scale w o cycle : ℕ) → FitsSigned w64 r → FitsSigned w32 t → FitsSigned w32 va → FitsSigned w32 vb → FitsSigned w32 a → FitsSigned w32 b
    → r ≡ nearest unit (mean (to_z w32 (of_z w32 va)) w (to_z w32 (of_z w32 vb)) o)
    → w ≡ unsigned_abs (to_z w32 (of_z w32 b) -ℤ to_z w32 (of_z w32 t))
    → o ≡ unsigned_abs (to_z w32 (of_z w32 t) -ℤ to_z w32 (of_z w32 a))
    → t ≡ time_of cycle → unit ≡ scale
    → to_z w64 (of_z w64 r) ≡ nearest scale (mean va (unsigned_abs (b -ℤ time_of cycle)) vb (unsigned_abs (time_of cycle -ℤ a)))
coordinate-is r t va vb a b unit scale w o cycle fr ft fva fvb fa fb value weight other time units =
    to_z-of_z w64 r fr ∙ value
    ∙ ap (λ z. nearest unit (mean z w (to_z w32 (of_z w32 vb)) o)) (to_z-of_z w32 va fva)
    ∙ ap (λ z. nearest unit (mean va w z o)) (to_z-of_z w32 vb fvb)
    ∙ ap (λ n. nearest unit (mean va n vb o)) (weight ∙ ap (λ z. unsigned_abs (z -ℤ to_z w32 (of_z w32 t))) (to_z-of_z w32 b fb) ∙ ap (λ z. unsigned_abs (b -ℤ z)) (to_z-of_z w32 t ft ∙ time))
    ∙ ap (λ n. nearest unit (mean va (unsigned_abs (b -ℤ time_of cycle)) vb n)) (other ∙ ap (λ z. unsigned_abs (z -ℤ to_z w32 (of_z w32 a))) (to_z-of_z w32 t ft ∙ time) ∙ ap (λ z. unsigned_abs (time_of cycle -ℤ z)) (to_z-of_z w32 a fa))
    ∙ ap (λ n. nearest n (mean va (unsigned_abs (b -ℤ time_of cycle)) vb (unsigned_abs (time_of cycle -ℤ a)))) units

pub same-place : (p q : Place) → p.x ≡ q.x → p.y ≡ q.y → p.z ≡ q.z → p ≡ q
same-place p q x y z = grind arith

-- The rounded place between the points around a time.
pub rounded-is : (points : List Point) (cycle : ℕ) (t : ℤ) (a b : Point) → FitsSigned w32 t → t ≡ time_of cycle → last_by points (to_z w32 (of_z w32 t)) ≡ Some a → first_from points (to_z w32 (of_z w32 t)) ≡ Some b
    → rounded_between a b cycle ≡ rounded points cycle
unfolding rounded
rounded-is points cycle t a b fits time before after =
    let first : last_by points (time_of cycle) ≡ Some a = subst (λ z. last_by points z ≡ Some a) (to_z-of_z w32 t fits ∙ time) before in
    let last : first_from points (time_of cycle) ≡ Some b = subst (λ z. first_from points z ≡ Some b) (to_z-of_z w32 t fits ∙ time) after in
    rw (first, last) refl

unit-above : (cycle : ℕ) → 0 < unit_of cycle
unit-above cycle = cond_both (cycle == 1) 60 1 (λ n. 0 < n) (λ _. omega arith) (λ _. omega arith)

between-near : (a b : Point) (cycle : ℕ) → IsNearTrack a b cycle (rounded_between a b cycle)
between-near a b cycle = record {
  x = nearest-near 1 (on_line (λ p. p.x) a b (time_of cycle)) (omega arith) (mean-above a.x b.x _ _);
  y = nearest-near 1 (on_line (λ p. p.y) a b (time_of cycle)) (omega arith) (mean-above a.y b.y _ _);
  z = nearest-near (unit_of cycle) (on_line (λ p. p.z) a b (time_of cycle)) (unit-above cycle) (mean-above a.z b.z _ _);
}

pub rounded-near : (points : List Point) (cycle : ℕ) (a b : Point) → last_by points (time_of cycle) ≡ Some a → first_from points (time_of cycle) ≡ Some b → IsNearTrack a b cycle (rounded points cycle)
unfolding rounded
rounded-near points cycle a b before after = rw (before, after) (between-near a b cycle)

-- A place between two points of a track is in the box.
pub between-boxed : (a b : Point) (cycle : ℕ) → IsPoint a → IsPoint b → IsInBox (rounded_between a b cycle)
between-boxed a b cycle from to =
    let w = unsigned_abs (b.ms -ℤ time_of cycle) in
    let o = unsigned_abs (time_of cycle -ℤ a.ms) in
    record {
      x = rounded-between-bounds 1 w o (neg_ℤ (pos 1000000)) (pos 1000000) a.x b.x (omega arith) from.place.x.0 to.place.x.0 from.place.x.1 to.place.x.1;
      y = rounded-between-bounds 1 w o (neg_ℤ (pos 1000000)) (pos 1000000) a.y b.y (omega arith) from.place.y.0 to.place.y.0 from.place.y.1 to.place.y.1;
      z = cond_both (cycle == 1) 60 1 (λ n. IsBetween (neg_ℤ (pos 60000)) (pos 3600000) (nearest n (on_line (λ p. p.z) a b (time_of cycle))))
          (λ _. rounded-between-bounds 60 w o (neg_ℤ (pos 1000)) (pos 60000) a.z b.z (omega arith) from.place.z.0 to.place.z.0 from.place.z.1 to.place.z.1)
          (λ _. rounded-between-bounds 1 w o (neg_ℤ (pos 60000)) (pos 3600000) a.z b.z (omega arith) from.place.z.0 to.place.z.0 from.place.z.1 to.place.z.1);
    }

-- No other place of whole coordinates is near.
between-only : (a b : Point) (cycle : ℕ) (place : Place) (k : ℤ) → place.z ≡ pos (unit_of cycle) *ℤ k → IsNearTrack a b cycle place → place ≡ rounded_between a b cycle
between-only a b cycle place k whole near =
    same-place place (rounded_between a b cycle)
    (whole-only (on_line (λ p. p.x) a b (time_of cycle)) place.x (mean-above a.x b.x _ _) near.x)
    (whole-only (on_line (λ p. p.y) a b (time_of cycle)) place.y (mean-above a.y b.y _ _) near.y)
    (whole ∙ near-only (unit_of cycle) (on_line (λ p. p.z) a b (time_of cycle)) k (unit-above cycle) (mean-above a.z b.z _ _) (subst (IsNear (unit_of cycle) (on_line (λ p. p.z) a b (time_of cycle))) whole near.z))

pub rounded-only : (points : List Point) (cycle : ℕ) (a b : Point) (place : Place) (k : ℤ) → last_by points (time_of cycle) ≡ Some a → first_from points (time_of cycle) ≡ Some b
    → place.z ≡ pos (unit_of cycle) *ℤ k → IsNearTrack a b cycle place → place ≡ rounded points cycle
unfolding rounded
rounded-only points cycle a b place k before after whole near = rw (before, after) (between-only a b cycle place k whole near)
