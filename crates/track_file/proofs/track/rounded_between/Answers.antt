use Rattle.std.proofs.Common.{arith, refl, w32, w64, FitsSigned, rules}
use Rattle.track_file.proofs.Placed.{between-boxed, coordinate-is, fits-within, same-place}
use Rattle.track_file.specs.Track.{rounded_between, unit_of}
use Rattle.track_file.proofs.track.rounded_between.Goals as goal

pub returns-clause-value : goal.returns-clause-value
returns-clause-value c =
    let a = c.args.span.now.before in
    let b = c.args.span.now.after in
    let from = c.requires.from in
    let to = c.requires.to in
    let t : FitsSigned w32 c.time_of-time.result = search rules in
    let fa = fits-within _ _ a.ms (omega arith) (omega arith) from.ms in
    let fb = fits-within _ _ b.ms (omega arith) (omega arith) to.ms in
    let x : FitsSigned w64 c.coordinate.result = search rules in
    let y : FitsSigned w64 c.coordinate-2.result = search rules in
    let z : FitsSigned w64 c.coordinate-3.result = search rules in
    same-place _ (rounded_between a b c.args.cycle)
    (coordinate-is c.coordinate.result c.time_of-time.result a.x b.x a.ms b.ms 1 1 c.apart-weight.result c.apart-other.result c.args.cycle x t
    (fits-within _ _ a.x (omega arith) (omega arith) from.place.x) (fits-within _ _ b.x (omega arith) (omega arith) to.place.x) fa fb c.coordinate.ensures c.apart-weight.ensures.value c.apart-other.ensures.value c.time_of-time.ensures.value refl)
    (coordinate-is c.coordinate-2.result c.time_of-time.result a.y b.y a.ms b.ms 1 1 c.apart-weight.result c.apart-other.result c.args.cycle y t
    (fits-within _ _ a.y (omega arith) (omega arith) from.place.y) (fits-within _ _ b.y (omega arith) (omega arith) to.place.y) fa fb c.coordinate-2.ensures c.apart-weight.ensures.value c.apart-other.ensures.value c.time_of-time.ensures.value refl)
    (coordinate-is c.coordinate-3.result c.time_of-time.result a.z b.z a.ms b.ms c.unit_of.result (unit_of c.args.cycle) c.apart-weight.result c.apart-other.result c.args.cycle z t
    (fits-within _ _ a.z (omega arith) (omega arith) from.place.z) (fits-within _ _ b.z (omega arith) (omega arith) to.place.z) fa fb c.coordinate-3.ensures c.apart-weight.ensures.value c.apart-other.ensures.value c.time_of-time.ensures.value c.unit_of.ensures.value)

pub returns-clause-in_box : goal.returns-clause-in_box
returns-clause-in_box c = rw (returns-clause-value c) (between-boxed c.args.span.now.before c.args.span.now.after c.args.cycle c.requires.from c.requires.to)
