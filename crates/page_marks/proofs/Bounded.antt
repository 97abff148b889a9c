-- Marks that lie within bounds, and whose numbers fit.
use Rattle.std.proofs.Common.{◌≡◌, ℕ, zero, suc, ◌+◌, ◌^◌, ◌<◌, ◌≤◌, List, [], ◌∷◌, ◌++◌, ap, ◌∙◌, arith, add-one}
use Rattle.std.proofs.lemmas.Int.{ints}
use Rattle.std.specs.Prelude.{map}
use Rattle.std.specs.List.{AllByRecursion, flat_map, range_with_len}
use Rattle.page_marks.specs.Paints.{box_marks, box_paint, halo, hatched, hatching, letters}
use Rattle.page_marks.specs.Places.{area_at, point_at}
use Rattle.page_marks.specs.Within.{AreInside, Bounds, IsMarkWithin, IsWithin}
use Rattle.page_marks.specs.declared.paints.Advised.{Advised}
use Rattle.page_marks.specs.declared.paints.Advised.TheVariants.{Traffic, Up, Down, Both}
use Rattle.svg_text.specs.Fitting.{FitsMark, FitsPaint, IsPoint}
use Rattle.svg_text.specs.Marks.{Mark, figure, traced, worded}
use Rattle.svg_text.specs.declared.shapes.Anchor.{Anchor}
use Rattle.svg_text.specs.declared.shapes.Outline.{Outline}
use Rattle.svg_text.specs.declared.shapes.Paint.{Paint}
use Rattle.svg_text.specs.declared.shapes.Point.{Point}
use Rattle.svg_text.specs.declared.shapes.Shape.TheVariants as shapes
use Rattle.svg_text.specs.declared.shapes.Weight.{Weight}

-- ---- lists

pub all-append : {X : Type 0} (P : X → Type 0) (xs ys : List X) → AllByRecursion P xs → AllByRecursion P ys → AllByRecursion P (xs ++ ys)
all-append P [] ys g h = h
all-append P (x ∷ xs) ys g h = (g.0, all-append P xs ys g.1 h)

pub all-range : {X : Type 0} (P : X → Type 0) (f : ℕ → List X) (first n : ℕ) → ((k : ℕ) → first ≤ k → k < first + n → AllByRecursion P (f k)) → AllByRecursion P (flat_map f (range_with_len first n))
all-range P f first zero h = tt
all-range P f first (suc n) h =
    all-append P (f first) (flat_map f (range_with_len (first + 1) n)) (h first (omega arith) (omega arith)) (all-range P f (first + 1) n (λ k low high. h k (omega arith) (omega arith)))

pub all-over : {X Y : Type 0} (Q : Y → Type 0) (P : X → Type 0) (f : Y → List X) → ((y : Y) → Q y → AllByRecursion P (f y)) → (ys : List Y) → AllByRecursion Q ys → AllByRecursion P (flat_map f ys)
all-over Q P f h [] g = tt
all-over Q P f h (y ∷ ys) g = all-append P (f y) (flat_map f ys) (h y g.0) (all-over Q P f h ys g.1)

pub all-points : (P : Point → Type 0) (f : ℕ → Point) (first n : ℕ) → ((k : ℕ) → first ≤ k → k < first + n → P (f k)) → AllByRecursion P (map f (range_with_len first n))
all-points P f first zero h = tt
all-points P f first (suc n) h = (h first (omega arith) (omega arith), all-points P f (first + 1) n (λ k low high. h k (omega arith) (omega arith)))

pub all-left : {X : Type 0} (P Q : X → Type 0) (xs : List X) → AllByRecursion (λ x. P x × Q x) xs → AllByRecursion P xs
all-left P Q [] h = tt
all-left P Q (x ∷ xs) h = (h.0.0, all-left P Q xs h.1)

pub all-right : {X : Type 0} (P Q : X → Type 0) (xs : List X) → AllByRecursion (λ x. P x × Q x) xs → AllByRecursion Q xs
all-right P Q [] h = tt
all-right P Q (x ∷ xs) h = (h.0.1, all-right P Q xs h.1)

-- What is made of one number more.
by-suc : {X : Type 0} (f : ℕ → X) (first n : ℕ) → map f (range_with_len first (suc n)) ≡ map f (range_with_len first n) ++ f (first + n) ∷ []
by-suc f first zero = ap (λ (k : ℕ). f k ∷ []) (omega arith)
by-suc f first (suc n) =
    let next : (first + 1) + n ≡ first + suc n = omega arith in
    ap (λ xs. f first ∷ xs) (by-suc f (first + 1) n ∙ ap (λ (k : ℕ). map f (range_with_len (first + 1) n) ++ f k ∷ []) next)

pub map-more : {X : Type 0} (f : ℕ → X) (first n : ℕ) → map f (range_with_len first (n + 1)) ≡ map f (range_with_len first n) ++ f (first + n) ∷ []
map-more f first n = ap (λ (k : ℕ). map f (range_with_len first k)) (add-one n) ∙ by-suc f first n

-- ---- wider bounds

wider-point : (inner outer : Bounds) → AreInside inner outer → (margin : ℕ) (point : Point) → IsWithin inner margin point → IsWithin outer margin point
wider-point inner outer inside margin point w =
    let a = inside.left in
    let b = inside.right in
    let c = inside.top in
    let d = inside.bottom in
    let p = w.left in
    let q = w.right in
    let r = w.top in
    let s = w.bottom in
    record { left = omega (arith, ints, a, p); right = omega (arith, ints, b, q); top = omega (arith, ints, c, r); bottom = omega (arith, ints, d, s) }

wider-points : (inner outer : Bounds) → AreInside inner outer → (points : List Point) → AllByRecursion (IsWithin inner 0) points → AllByRecursion (IsWithin outer 0) points
wider-points inner outer inside [] w = tt
wider-points inner outer inside (point ∷ points) w = (wider-point inner outer inside 0 point w.0, wider-points inner outer inside points w.1)

pub wider : (inner outer : Bounds) → AreInside inner outer → (mark : Mark) → IsMarkWithin inner mark → IsMarkWithin outer mark
wider inner outer inside (figure (shapes.Rect area) paint title) w = (wider-point inner outer inside 0 _ w.0, wider-point inner outer inside 0 _ w.1)
wider inner outer inside (figure (shapes.Segment from to) paint title) w = (wider-point inner outer inside 0 _ w.0, wider-point inner outer inside 0 _ w.1)
wider inner outer inside (figure (shapes.Circle center radius) paint title) w = wider-point inner outer inside radius center w
wider inner outer inside (traced outline points paint title) w = wider-points inner outer inside points w
wider inner outer inside (worded lettering words title) w = wider-point inner outer inside 0 _ w

pub all-wider : (inner outer : Bounds) → AreInside inner outer → (marks : List Mark) → AllByRecursion (IsMarkWithin inner) marks → AllByRecursion (IsMarkWithin outer) marks
all-wider inner outer inside [] w = tt
all-wider inner outer inside (mark ∷ marks) w = (wider inner outer inside mark w.0, all-wider inner outer inside marks w.1)

-- ---- single marks

-- A mark lies within bounds, and its numbers fit.
abbrev pub Good : Bounds → Mark → Type 0
Good bounds mark = IsMarkWithin bounds mark × FitsMark mark

-- Bounds whose numbers fit.
pub record AreSmall (bounds : Bounds) : Type 0 where
  pub right : bounds.right < 2 ^ 16
  pub bottom : bounds.bottom < 2 ^ 16

-- A place is right of the left edge and left of the right one, below the upper edge and above the lower one.
pub record IsPlace (bounds : Bounds) (x y : ℕ) : Type 0 where
  pub left : bounds.left ≤ x
  pub right : x ≤ bounds.right
  pub top : bounds.top ≤ y
  pub bottom : y ≤ bounds.bottom

pub at-point : (bounds : Bounds) (x y : ℕ) → IsPlace bounds x y → IsWithin bounds 0 (point_at x y)
at-point bounds x y p =
    let a = p.left in
    let b = p.right in
    let c = p.top in
    let d = p.bottom in
    record { left = omega (arith, ints); right = omega (arith, ints); top = omega (arith, ints); bottom = omega (arith, ints) }

pub is-point : (bounds : Bounds) (x y : ℕ) → AreSmall bounds → IsPlace bounds x y → IsPoint (point_at x y)
is-point bounds x y small p =
    let a = p.right in
    let b = p.bottom in
    let c = small.right in
    let d = small.bottom in
    record { x = omega arith; y = omega arith }

pub good-line : (bounds : Bounds) (x y p q : ℕ) (paint : Paint) (title : List ℕ) → FitsPaint paint → AreSmall bounds → IsPlace bounds x y → IsPlace bounds p q →
    Good bounds (figure (shapes.Segment (point_at x y) (point_at p q)) paint title)
good-line bounds x y p q paint title fits small from to =
    ((at-point bounds x y from, at-point bounds p q to), ((is-point bounds x y small from, is-point bounds p q small to), fits))

pub good-box : (bounds : Bounds) (x y width height : ℕ) (paint : Paint) (title : List ℕ) → FitsPaint paint → AreSmall bounds → IsPlace bounds x y → IsPlace bounds (x + width) (y + height) →
    Good bounds (figure (shapes.Rect (area_at x y width height)) paint title)
good-box bounds x y width height paint title fits small from to =
    let a = to.left in
    let b = to.right in
    let c = to.top in
    let d = to.bottom in
    let right = small.right in
    let bottom = small.bottom in (
      (at-point bounds x y from, record { left = omega (arith, ints); right = omega (arith, ints); top = omega (arith, ints); bottom = omega (arith, ints) }),
      (record { corner = is-point bounds x y small from; width = omega arith; height = omega arith }, fits),
    )

pub good-circle : (bounds : Bounds) (x y radius : ℕ) (paint : Paint) (title : List ℕ) → FitsPaint paint → AreSmall bounds → radius < 2 ^ 16 → bounds.left + radius ≤ x → x + radius ≤ bounds.right → bounds.top + radius ≤ y → y + radius ≤ bounds.bottom →
    Good bounds (figure (shapes.Circle (point_at x y) radius) paint title)
good-circle bounds x y radius paint title fits small short left right top bottom =
    let p : IsPlace bounds x y = record { left = omega arith; right = omega arith; top = omega arith; bottom = omega arith } in
    (record { left = omega (arith, ints); right = omega (arith, ints); top = omega (arith, ints); bottom = omega (arith, ints) }, ((is-point bounds x y small p, short), fits))

pub good-words : (bounds : Bounds) (x y size : ℕ) (anchor : Anchor) (weight : Weight) (words title : List ℕ) → size < 2 ^ 16 → AreSmall bounds → IsPlace bounds x y →
    Good bounds (worded (letters (point_at x y) size anchor weight) words title)
good-words bounds x y size anchor weight words title short small p = (at-point bounds x y p, record { at = is-point bounds x y small p; size = short; paint = tt })

pub good-halo : (bounds : Bounds) (x y size : ℕ) (anchor : Anchor) (weight : Weight) (words title : List ℕ) → size < 2 ^ 16 → AreSmall bounds → IsPlace bounds x y →
    Good bounds (worded (halo (point_at x y) size anchor weight) words title)
good-halo bounds x y size anchor weight words title short small p = (at-point bounds x y p, record { at = is-point bounds x y small p; size = short; paint = omega arith })

-- A line through the places of a range, each within the bounds.
pub good-trace : (bounds : Bounds) (outline : Outline) (x y : ℕ → ℕ) (first n : ℕ) (paint : Paint) (title : List ℕ) → FitsPaint paint → AreSmall bounds → ((k : ℕ) → first ≤ k → k < first + n → IsPlace bounds (x k) (y k)) →
    Good bounds (traced outline (map (λ (k : ℕ). point_at (x k) (y k)) (range_with_len first n)) paint title)
good-trace bounds outline x y first n paint title fits small places = (
  all-points (IsWithin bounds 0) (λ (k : ℕ). point_at (x k) (y k)) first n (λ k low high. at-point bounds (x k) (y k) (places k low high)),
  (all-points IsPoint (λ (k : ℕ). point_at (x k) (y k)) first n (λ k low high. is-point bounds (x k) (y k) small (places k low high)), fits),
)

box-fits : (kind : Advised) → FitsPaint (box_paint kind)
box-fits Traffic = omega arith
box-fits Up = omega arith
box-fits Down = omega arith
box-fits Both = omega arith

good-hatching : (bounds : Bounds) (x y width height : ℕ) (kind : Advised) (title : List ℕ) → AreSmall bounds → IsPlace bounds x y → IsPlace bounds (x + width) (y + height) → AllByRecursion (Good bounds) (hatching kind (area_at x y width height) title)
good-hatching bounds x y width height Traffic title small from to = tt
good-hatching bounds x y width height Up title small from to = tt
good-hatching bounds x y width height Down title small from to = (good-box bounds x y width height hatched title tt small from to, tt)
good-hatching bounds x y width height Both title small from to = tt

pub good-boxes : (bounds : Bounds) (x y width height : ℕ) (kind : Advised) (title : List ℕ) → AreSmall bounds → IsPlace bounds x y → IsPlace bounds (x + width) (y + height) → AllByRecursion (Good bounds) (box_marks kind (area_at x y width height) title)
unfolding box_marks
good-boxes bounds x y width height kind title small from to =
    (good-box bounds x y width height (box_paint kind) title (box-fits kind) small from to, good-hatching bounds x y width height kind title small from to)
