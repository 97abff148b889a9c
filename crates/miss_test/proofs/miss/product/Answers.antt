use Rattle.std.proofs.Common.{◌*ℤ◌, arith, w64}
use Rattle.std.proofs.lemmas.Int.{fits_signed_mul, to_z-of_z}
use Rattle.miss_test.proofs.miss.product.Goals as goal

pub returns : goal.returns
returns c =
    let twice = to_z-of_z w64 c.args.twice c.ranges.twice in
    let above = to_z-of_z w64 c.args.above c.ranges.above in
    let whole = to_z-of_z w64 (c.args.twice *ℤ c.args.above) (fits_signed_mul w64 c.args.twice c.args.above 128000000 33225998400 c.requires.twice c.requires.above (omega arith)) in
    rw (twice, above) whole
