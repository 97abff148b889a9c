use Rattle.std.proofs.Common.{arith}
use Rattle.flight.proofs.Slants.{slant-fits}
use Rattle.flight.proofs.ranges.range_of.Goals as goal

pub overflow_cast-result : goal.overflow_cast-result
overflow_cast-result c =
    let short = slant-fits c.args.here c.args.there c.requires.here c.requires.there in
    omega (arith, short, c.slant_range.ensures)
