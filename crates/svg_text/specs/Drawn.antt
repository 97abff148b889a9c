-- Lines that are taken one after the other, as marks.
use Rattle.std.proofs.Common.{ℕ, List, [], ◌∷◌, ◌++◌, sym, subst}
use Rattle.std.proofs.lemmas.List.{append-nil, map-append}
use Rattle.std.proofs.lemmas.List.Concat.{flat_map-append}
use Rattle.std.specs.List.{AllByRecursion}
use Rattle.svg_text.specs.Fitting.{FitsMark, FitsPaint, IsPoint}
use Rattle.svg_text.specs.Marks.{Mark, before_points, ending_lines, mark_lines, marks_lines, point_line, point_lines, traced}
use Rattle.svg_text.specs.declared.shapes.Outline.{Outline}
use Rattle.svg_text.specs.declared.shapes.Paint.{Paint}
use Rattle.svg_text.specs.declared.shapes.Point.{Point}

-- What holds of each of some things and of each of others holds of each of both.
each-append : {X : Type 0} (P : X → Type 0) (xs ys : List X) → AllByRecursion P xs → AllByRecursion P ys → AllByRecursion P (xs ++ ys)
each-append P [] ys g h = h
each-append P (x ∷ xs) ys g h = (g.0, each-append P xs ys g.1 h)

pub drawn-nothing : {Self : Type 0} (took : Self → Self → List (List ℕ) → Type 0) → ((a : Self) → took a a []) → (a : Self) → took a a (marks_lines []) × AllByRecursion FitsMark []
unfolding marks_lines
drawn-nothing took nothing a = (nothing a, tt)

pub drawn-then : {Self : Type 0} (took : Self → Self → List (List ℕ) → Type 0) → ((a b c : Self) (xs ys : List (List ℕ)) → took a b xs → took b c ys → took a c (xs ++ ys))
    → (a b c : Self) (xs ys : List Mark) → took a b (marks_lines xs) × AllByRecursion FitsMark xs → took b c (marks_lines ys) × AllByRecursion FitsMark ys
    → took a c (marks_lines (xs ++ ys)) × AllByRecursion FitsMark (xs ++ ys)
unfolding marks_lines
drawn-then took then a b c xs ys g h =
    (subst (took a c) (sym (flat_map-append mark_lines xs ys)) (then a b c (marks_lines xs) (marks_lines ys) g.0 h.0), each-append FitsMark xs ys g.1 h.1)

pub passed-nothing : {Self : Type 0} (took : Self → Self → List (List ℕ) → Type 0) → ((a : Self) → took a a []) → (a : Self) → took a a (point_lines []) × AllByRecursion IsPoint []
passed-nothing took nothing a = (nothing a, tt)

pub passed-then : {Self : Type 0} (took : Self → Self → List (List ℕ) → Type 0) → ((a b c : Self) (xs ys : List (List ℕ)) → took a b xs → took b c ys → took a c (xs ++ ys))
    → (a b c : Self) (xs ys : List Point) → took a b (point_lines xs) × AllByRecursion IsPoint xs → took b c (point_lines ys) × AllByRecursion IsPoint ys
    → took a c (point_lines (xs ++ ys)) × AllByRecursion IsPoint (xs ++ ys)
passed-then took then a b c xs ys g h =
    (subst (took a c) (sym (map-append point_line xs ys)) (then a b c (point_lines xs) (point_lines ys) g.0 h.0), each-append IsPoint xs ys g.1 h.1)

pub drawn-whole : {Self : Type 0} (took : Self → Self → List (List ℕ) → Type 0) → ((a b c : Self) (xs ys : List (List ℕ)) → took a b xs → took b c ys → took a c (xs ++ ys))
    → (a b c d : Self) (outline : Outline) (points : List Point) (paint : Paint) (title : List ℕ)
    → took a b (before_points outline ∷ []) → took b c (point_lines points) × AllByRecursion IsPoint points → took c d (ending_lines outline paint title) × FitsPaint paint
    → took a d (marks_lines (traced outline points paint title ∷ [])) × AllByRecursion FitsMark (traced outline points paint title ∷ [])
unfolding marks_lines mark_lines
drawn-whole took then a b c d outline points paint title g h k = (
  subst (took a d) (sym (append-nil _)) (then a b d (before_points outline ∷ []) (point_lines points ++ ending_lines outline paint title) g (then b c d (point_lines points) (ending_lines outline paint title) h.0 k.0)),
  ((h.1, k.1), tt),
)
