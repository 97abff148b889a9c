use Rattle.std.proofs.Common.{◌-◌, arith}
use Rattle.std.proofs.lemmas.Int.{ints}
use Rattle.track_file.proofs.Spans.{any-point, by-last, first-next, first-same, last-is, next-late, next-there, plain-by, some-by}
use Rattle.track_file.proofs.track.around.Goals as goal

pub overflow_sub-before : goal.overflow_sub-before
overflow_sub-before c = some-by c.args.points.now c.args.time c.count_by-count.result any-point (plain-by c.args.points.now c.args.time c.count_by-count.result c.ranges.time c.count_by-count.ensures.parted) c.requires.some_by

pub returns-then-time-before-clause-before : goal.returns-then-time-before-clause-before
returns-then-time-before-clause-before c =
    let some = some-by c.args.points.now c.args.time c.count_by-count.result any-point (plain-by c.args.points.now c.args.time c.count_by-count.result c.ranges.time c.count_by-count.ensures.parted) c.requires.some_by in
    last-is c.args.points.now c.args.time c.count_by-count.result any-point (plain-by c.args.points.now c.args.time c.count_by-count.result c.ranges.time c.count_by-count.ensures.parted) some c.count_by-count.ensures.bound

pub returns-then-time-before-clause-after : goal.returns-then-time-before-clause-after
returns-then-time-before-clause-after c =
    let some = some-by c.args.points.now c.args.time c.count_by-count.result any-point (plain-by c.args.points.now c.args.time c.count_by-count.result c.ranges.time c.count_by-count.ensures.parted) c.requires.some_by in
    first-same c.args.points.now c.args.time c.count_by-count.result any-point c.requires.track (plain-by c.args.points.now c.args.time c.count_by-count.result c.ranges.time c.count_by-count.ensures.parted) some c.count_by-count.ensures.bound
    (omega (arith, ints, c.if-time-before.true))

pub returns-then-time-before-clause-from_range : goal.returns-then-time-before-clause-from_range
returns-then-time-before-clause-from_range c =
    let some = some-by c.args.points.now c.args.time c.count_by-count.result any-point (plain-by c.args.points.now c.args.time c.count_by-count.result c.ranges.time c.count_by-count.ensures.parted) c.requires.some_by in
    c.requires.track.ranges (c.count_by-count.result - 1) any-point (omega (arith, some, c.count_by-count.ensures.bound))

pub returns-then-time-before-clause-to_range : goal.returns-then-time-before-clause-to_range
returns-then-time-before-clause-to_range c =
    let some = some-by c.args.points.now c.args.time c.count_by-count.result any-point (plain-by c.args.points.now c.args.time c.count_by-count.result c.ranges.time c.count_by-count.ensures.parted) c.requires.some_by in
    c.requires.track.ranges (c.count_by-count.result - 1) any-point (omega (arith, some, c.count_by-count.ensures.bound))

pub bounds-points-count-2 : goal.bounds-points-count-2
bounds-points-count-2 c =
    let some = some-by c.args.points.now c.args.time c.count_by-count.result any-point (plain-by c.args.points.now c.args.time c.count_by-count.result c.ranges.time c.count_by-count.ensures.parted) c.requires.some_by in
    next-there c.args.points.now c.args.time c.count_by-count.result any-point c.requires.track (plain-by c.args.points.now c.args.time c.count_by-count.result c.ranges.time c.count_by-count.ensures.parted) some c.count_by-count.ensures.bound (omega (arith, ints, c.if-time-before.false)) c.requires.some_from

pub returns-clause-before : goal.returns-clause-before
returns-clause-before c =
    let some = some-by c.args.points.now c.args.time c.count_by-count.result any-point (plain-by c.args.points.now c.args.time c.count_by-count.result c.ranges.time c.count_by-count.ensures.parted) c.requires.some_by in
    last-is c.args.points.now c.args.time c.count_by-count.result any-point (plain-by c.args.points.now c.args.time c.count_by-count.result c.ranges.time c.count_by-count.ensures.parted) some c.count_by-count.ensures.bound

pub returns-clause-after : goal.returns-clause-after
returns-clause-after c =
    let some = some-by c.args.points.now c.args.time c.count_by-count.result any-point (plain-by c.args.points.now c.args.time c.count_by-count.result c.ranges.time c.count_by-count.ensures.parted) c.requires.some_by in
    let next =
    next-there c.args.points.now c.args.time c.count_by-count.result any-point c.requires.track (plain-by c.args.points.now c.args.time c.count_by-count.result c.ranges.time c.count_by-count.ensures.parted) some c.count_by-count.ensures.bound (omega (arith, ints, c.if-time-before.false)) c.requires.some_from in
    first-next c.args.points.now c.args.time c.count_by-count.result any-point c.requires.track (plain-by c.args.points.now c.args.time c.count_by-count.result c.ranges.time c.count_by-count.ensures.parted) some next (omega (arith, ints, c.if-time-before.false))

pub returns-clause-first : goal.returns-clause-first
returns-clause-first c =
    let some = some-by c.args.points.now c.args.time c.count_by-count.result any-point (plain-by c.args.points.now c.args.time c.count_by-count.result c.ranges.time c.count_by-count.ensures.parted) c.requires.some_by in
    by-last c.args.points.now c.args.time c.count_by-count.result any-point (plain-by c.args.points.now c.args.time c.count_by-count.result c.ranges.time c.count_by-count.ensures.parted) some

pub returns-clause-last : goal.returns-clause-last
returns-clause-last c =
    let some = some-by c.args.points.now c.args.time c.count_by-count.result any-point (plain-by c.args.points.now c.args.time c.count_by-count.result c.ranges.time c.count_by-count.ensures.parted) c.requires.some_by in
    next-late c.args.points.now c.args.time c.count_by-count.result any-point (plain-by c.args.points.now c.args.time c.count_by-count.result c.ranges.time c.count_by-count.ensures.parted)
    (next-there c.args.points.now c.args.time c.count_by-count.result any-point c.requires.track (plain-by c.args.points.now c.args.time c.count_by-count.result c.ranges.time c.count_by-count.ensures.parted) some c.count_by-count.ensures.bound (omega (arith, ints, c.if-time-before.false)) c.requires.some_from)

pub returns-clause-from_range : goal.returns-clause-from_range
returns-clause-from_range c =
    let some = some-by c.args.points.now c.args.time c.count_by-count.result any-point (plain-by c.args.points.now c.args.time c.count_by-count.result c.ranges.time c.count_by-count.ensures.parted) c.requires.some_by in
    c.requires.track.ranges (c.count_by-count.result - 1) any-point (omega (arith, some, c.count_by-count.ensures.bound))

pub returns-clause-to_range : goal.returns-clause-to_range
returns-clause-to_range c =
    let some = some-by c.args.points.now c.args.time c.count_by-count.result any-point (plain-by c.args.points.now c.args.time c.count_by-count.result c.ranges.time c.count_by-count.ensures.parted) c.requires.some_by in
    c.requires.track.ranges c.count_by-count.result any-point
    (next-there c.args.points.now c.args.time c.count_by-count.result any-point c.requires.track (plain-by c.args.points.now c.args.time c.count_by-count.result c.ranges.time c.count_by-count.ensures.parted) some c.count_by-count.ensures.bound (omega (arith, ints, c.if-time-before.false)) c.requires.some_from)

pub returns-then-time-before-clause-first : goal.returns-then-time-before-clause-first
returns-then-time-before-clause-first c =
    let some = some-by c.args.points.now c.args.time c.count_by-count.result any-point (plain-by c.args.points.now c.args.time c.count_by-count.result c.ranges.time c.count_by-count.ensures.parted) c.requires.some_by in
    by-last c.args.points.now c.args.time c.count_by-count.result any-point (plain-by c.args.points.now c.args.time c.count_by-count.result c.ranges.time c.count_by-count.ensures.parted) some
