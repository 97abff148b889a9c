use Rattle.std.proofs.Common.{◌≡◌}
use Rattle.enc_file.specs.Values.{field}
use Rattle.fault_text.specs.Lines.{fields_in}
use Rattle.fault_text.proofs.fields.field.Given as goal

abbrev pub invariant-loop-left : goal.invariant-loop-left
invariant-loop-left l = field (fields_in l.fn.line) l.fn.place ≡ field l.fields l.left

abbrev pub decreases-loop-left : goal.decreases-loop-left
decreases-loop-left l = l.left
