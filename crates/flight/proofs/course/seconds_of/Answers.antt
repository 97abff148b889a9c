use Rattle.flight.proofs.Latest.{begins-more}
use Rattle.flight.proofs.course.seconds_of.Goals as goal

pub overflow_sub-result : goal.overflow_sub-result
overflow_sub-result c =
    rw (c.begins-2.ensures, c.begins.ensures)
    (begins-more c.args.legs.now c.args.index c.args.cycle c.requires.course c.requires.index)
