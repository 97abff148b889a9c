use Rattle.std.proofs.Common.{FitsSigned, w64, ◌∙◌, refl, rules}
use Rattle.std.proofs.lemmas.Int.{to_z-of_z}
use Rattle.flight.specs.Measurement.{slant_range}
use Rattle.flight.proofs.measuring.slant_range.Goals as goal

pub returns : goal.returns
unfolding slant_range
returns c =
    let p = c.args.here in
    let q = c.args.there in
    let a : FitsSigned w64 p.x = search rules in
    let b : FitsSigned w64 p.y = search rules in
    let d : FitsSigned w64 p.z = search rules in
    let e : FitsSigned w64 q.x = search rules in
    let f : FitsSigned w64 q.y = search rules in
    let g : FitsSigned w64 q.z = search rules in
    c.root.ensures.value ∙ rw (c.square-x.ensures.value, c.square-y.ensures.value, c.square.ensures.value) (simp to_z-of_z refl)
