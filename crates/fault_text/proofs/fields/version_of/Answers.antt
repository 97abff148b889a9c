use Rattle.std.proofs.Common.{◌∙◌, sym}
use Rattle.fault_text.proofs.Headers.{header-some, version-said}
use Rattle.fault_text.specs.Lines.{fields_in}
use Rattle.fault_text.proofs.fields.version_of.Goals as goal

pub unreachable-requires : goal.unreachable-requires
unreachable-requires c = header-some (fields_in c.args.line.now) c.requires (rw c.field.ensures at (sym c.count_in.ensures.value) ∙ c.in-None.is)

pub returns : goal.returns
returns c = version-said (fields_in c.args.line.now) c.requires ∙ rw c.field.ensures at (sym c.count_in.ensures.value) ∙ c.in-Some.is
