use Rattle.std.proofs.Common.{arith, ◌∙◌, ap}
use Rattle.flight.proofs.Latest.{begins-past}
use Rattle.flight.proofs.Staying.{place-first, place-next, place-reach}
use Rattle.flight.specs.Flight.{place_in}
use Rattle.flight.proofs.course.Course.place_in.Goals as goal

pub loop-index-init : goal.loop-index-init
loop-index-init c = place-first c.args.self.now.start c.args.self.now.legs.now c.args.cycle c.args.self.now.ordered c.requires.0

pub flown-place-requires-clause-place : goal.flown-place-requires-clause-place
flown-place-requires-clause-place c =
    place-reach c.args.self.now.start c.loop-index.place c.args.self.now.legs.now c.loop-index.index c.args.cycle c.args.self.now.near c.args.self.now.ordered c.requires.1 c.loop-index.invariant

pub loop-index-preserved : goal.loop-index-preserved
loop-index-preserved c =
    place-next c.args.self.now.start c.loop-index.place c.flown-place.result c.args.self.now.legs.now c.loop-index.index c.args.cycle c.seconds_of.result _
    c.args.self.now.ordered c.loop-index-test.true c.requires.0 c.loop-index.invariant c.seconds_of.ensures.value c.flown-place.ensures

pub returns-then-self-index-clause-bounds : goal.returns-then-self-index-clause-bounds
returns-then-self-index-clause-bounds c =
    place-reach c.args.self.now.start c.loop-index.place c.args.self.now.legs.now c.loop-index.index c.args.cycle c.args.self.now.near c.args.self.now.ordered c.requires.1 c.loop-index.invariant

pub returns-clause-value : goal.returns-clause-value
returns-clause-value c = c.loop-index.invariant ∙ ap (place_in c.args.self.now.start c.args.self.now.legs.now) (begins-past c.args.self.now.legs.now c.loop-index.index c.args.cycle (omega arith))

pub returns-clause-bounds : goal.returns-clause-bounds
returns-clause-bounds c =
    place-reach c.args.self.now.start c.loop-index.place c.args.self.now.legs.now c.loop-index.index c.args.cycle c.args.self.now.near c.args.self.now.ordered c.requires.1 c.loop-index.invariant
