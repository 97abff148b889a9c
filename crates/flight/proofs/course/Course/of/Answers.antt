use Rattle.std.proofs.Common.{length}
use Rattle.flight.proofs.Courses.{course-of}
use Rattle.flight.proofs.Placing.{position-of}
use Rattle.flight.proofs.course.Course.of.Goals as goal

pub invariant_of-result-clause-ordered : goal.invariant_of-result-clause-ordered
invariant_of-result-clause-ordered c =
    let listed = c.legs.ensures.valid.records.legs in
    rw (c.legs_of.ensures, c.legs.ensures.value)
    (course-of c.args.encounter.now.legs (length c.args.encounter.now.crafts) c.args.craft listed.1 listed.0)

pub returns : goal.returns
returns c cycle =
    let is = rw c.crafts.ensures.value at c.index-crafts-craft.is in
    rw (c.start_of.ensures.value, c.legs_of.ensures, c.legs.ensures.value)
    (position-of c.args.encounter.now c.args.craft cycle c.index-crafts-craft.result c.requires is)
