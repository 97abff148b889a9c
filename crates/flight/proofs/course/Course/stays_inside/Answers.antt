use Rattle.std.proofs.Common.{arith, rules, ◌+◌}
use Rattle.flight.proofs.Latest.{begins-past}
use Rattle.flight.proofs.Staying.{place-first, place-next, place-reach, stays-at, stays-first, stays-next}
use Rattle.flight.proofs.course.Course.stays_inside.Goals as goal

pub returns-then-not-is_in_box : goal.returns-then-not-is_in_box
returns-then-not-is_in_box c = (
  λ e. cc e,
  λ stays.
      let start = place-first c.args.self.now.start c.args.self.now.legs.now c.args.cycles c.args.self.now.ordered c.requires.0 in
      let here = stays-at c.args.self.now.start c.args.self.now.start c.args.self.now.legs.now 0 c.args.cycles c.args.self.now.ordered c.requires.0 start stays in
      absurd (cc (c.is_in_box.ensures.1 here, c.if-not-is_in_box.true)),
)

pub loop-index-init : goal.loop-index-init
loop-index-init c = record {
  place = place-first c.args.self.now.start c.args.self.now.legs.now c.args.cycles c.args.self.now.ordered c.requires.0;
  in_box = stays-first c.args.self.now.start c.args.self.now.legs.now c.args.cycles c.args.self.now.ordered (c.is_in_box.ensures.0 c.if-not-is_in_box.false);
}

pub flown-place-requires-clause-place : goal.flown-place-requires-clause-place
flown-place-requires-clause-place c =
    place-reach c.args.self.now.start c.loop-index.place c.args.self.now.legs.now c.loop-index.index c.args.cycles c.args.self.now.near c.args.self.now.ordered c.requires.1 c.loop-index.invariant.place

pub returns-then-not-is_in_box-2 : goal.returns-then-not-is_in_box-2
returns-then-not-is_in_box-2 c = (
  λ e. cc e,
  λ stays.
      let next =
      place-next c.args.self.now.start c.loop-index.place c.flown-place.result c.args.self.now.legs.now c.loop-index.index c.args.cycles c.seconds_of.result _
      c.args.self.now.ordered c.loop-index-test.true c.requires.0 c.loop-index.invariant.place c.seconds_of.ensures.value c.flown-place.ensures in
      let here = stays-at c.args.self.now.start c.flown-place.result c.args.self.now.legs.now (c.loop-index.index + 1) c.args.cycles c.args.self.now.ordered c.requires.0 next stays in
      absurd (cc (c.is_in_box-in-loop-index.ensures.1 here, c.if-not-is_in_box-2.true)),
)

pub loop-index-preserved : goal.loop-index-preserved
loop-index-preserved c = record {
  place =
      place-next c.args.self.now.start c.loop-index.place c.flown-place.result c.args.self.now.legs.now c.loop-index.index c.args.cycles c.seconds_of.result _
      c.args.self.now.ordered c.loop-index-test.true c.requires.0 c.loop-index.invariant.place c.seconds_of.ensures.value c.flown-place.ensures;
  in_box =
      stays-next c.args.self.now.start c.loop-index.place c.flown-place.result c.args.self.now.legs.now c.loop-index.index c.args.cycles c.seconds_of.result _
      c.args.self.now.ordered c.loop-index-test.true c.requires.0 c.loop-index.invariant.place c.seconds_of.ensures.value c.flown-place.ensures
      c.loop-index.invariant.in_box (c.is_in_box-in-loop-index.ensures.0 c.if-not-is_in_box-2.false);
}

pub returns : goal.returns
returns c =
    let end = begins-past c.args.self.now.legs.now c.loop-index.index c.args.cycles (omega arith) in
    (λ _ k first last. c.loop-index.invariant.in_box k first (omega (arith, end, last)), λ _. search rules)
