use Rattle.std.proofs.Common.{◌≡◌, ◌∙◌, ◌-◌, ◌≤◌, List, [], ◌∷◌, Some, FitsSigned, get_or, ap, arith, length, subst, sym, w32}
use Rattle.std.specs.Prelude.{int_le, neg_ℤ, pos, slice_get}
use Rattle.std.specs.Option.{option_copied}
use Rattle.std.proofs.lemmas.Int.{to_z-of_z}
use Rattle.std.proofs.lemmas.Option.{none-some, same_Some, slice_get-get_or}
use Rattle.track_file.proofs.Placed.{fits-within}
use Rattle.track_file.specs.Track.{IsPoint}
use Rattle.track_file.specs.declared.track.Point.{Point}
use Rattle.track_text.proofs.Since.{last-since}
use Rattle.track_text.proofs.tables.is_since.Goals as goal

some-last : (points : List Point) (p : Point) → slice_get points (length points - 1) ≡ Some p → 1 ≤ length points
some-last [] p is = absurd (none-some p is)
some-last (q ∷ points) p is = omega arith

pub returns-in-Some : goal.returns-in-Some
returns-in-Some c =
    let points = c.args.points.now in
    let p = c.in-Some.point.now in
    let found : slice_get points (length points - 1) ≡ Some p = sym c.last.ensures.value ∙ ap option_copied c.in-Some.is in
    let some = some-last points p found in
    let same : get_or points (length points - 1) p ≡ p = same_Some (get_or points (length points - 1) p) p (sym (slice_get-get_or points (length points - 1) p (omega (arith, some))) ∙ found) in
    let point : IsPoint p = subst IsPoint same (c.requires.ranges (length points - 1) p (omega (arith, some))) in
    let fits : FitsSigned w32 p.ms = fits-within (neg_ℤ (pos 1000000)) (pos 1000000) p.ms (omega arith) (omega arith) point.ms in
    rw (to_z-of_z w32 c.args.time c.ranges.time, to_z-of_z w32 p.ms fits) (ap (λ (q : Point). int_le c.args.time q.ms) (sym same) ∙ last-since points c.args.time p c.requires some)
