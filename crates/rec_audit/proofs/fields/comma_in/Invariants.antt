use Rattle.memchr.specs.Find.{Nowhere, Passes, is_byte}
use Rattle.rec_audit.proofs.fields.comma_in.Given as goal

abbrev pub invariant-loop-at : goal.invariant-loop-at
invariant-loop-at l = Nowhere (Passes (is_byte 44) l.text) 0 l.at
