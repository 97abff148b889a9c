use Rattle.std.proofs.Common.{◌≡◌, ◌+◌, length}
use Rattle.rec_audit.specs.Fields.{fields_of}
use Rattle.rec_audit.proofs.faulty.count_fields.Given as goal

abbrev pub invariant-loop-count : goal.invariant-loop-count
invariant-loop-count l = l.count + length l.fields ≡ length (fields_of l.fn.body)

abbrev pub decreases-loop-count : goal.decreases-loop-count
decreases-loop-count l = length l.fields
