use Rattle.std.proofs.Common.{ap, arith, length}
use Rattle.rec_audit.proofs.Rightly.{few-fields}
use Rattle.rec_audit.proofs.faulty.count_fields.Goals as goal

pub overflow_add-count : goal.overflow_add-count
overflow_add-count c = let few = few-fields c.args.body.now in omega (arith, c.requires, c.loop-count.invariant, ap length c.in-Some.ensures, few)
