use Rattle.std.proofs.Common.{◌∙◌, sym}
use Rattle.rec_text.proofs.Splits.{some_field}
use Rattle.rec_audit.proofs.faulty.form_why.Goals as goal

pub unreachable-requires : goal.unreachable-requires
unreachable-requires c = some_field c.args.body.now (sym c.of.ensures ∙ c.in_default.ensures.0)
