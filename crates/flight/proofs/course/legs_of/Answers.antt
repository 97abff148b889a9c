use Rattle.std.proofs.lemmas.List.{take_rest}
use Rattle.flight.proofs.Courses.{in-order, legs-there}
use Rattle.flight.proofs.course.legs_of.Goals as goal

pub slice_bounds-result-count : goal.slice_bounds-result-count
slice_bounds-result-count c =
    in-order c.args.legs.now c.args.craft c.count_before-first.result c.count_before-past.result c.count_before-first.ensures.parted c.count_before-past.ensures.parted c.count_before-first.ensures.bound

pub returns : goal.returns
returns c =
    let legs = c.args.legs.now in
    let a = c.count_before-first.result in
    let b = c.count_before-past.result in
    let rest = take_rest legs a in
    rw rest
    (legs-there legs c.args.craft a b c.count_before-first.ensures.parted c.count_before-past.ensures.parted c.count_before-first.ensures.bound c.count_before-past.ensures.bound)
