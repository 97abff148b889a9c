use Rattle.std.proofs.Common.{sym, drop, ◌∙◌}
use Rattle.fault_text.specs.Lines.{fields_in}
use Rattle.fault_text.specs.Names.{names_of}
use Rattle.fault_text.proofs.Wrong.{mask-found}
use Rattle.fault_text.proofs.fault.mask_why.Goals as goal

pub unreachable-requires-in-None : goal.unreachable-requires-in-None
unreachable-requires-in-None c = mask-found (names_of c.args.kind) (drop 1 (fields_in c.args.line.now)) c.in-Some.name c.in-Some.found.now c.in-Some.ensures (sym c.mask_in.ensures ∙ c.in-None.is)
