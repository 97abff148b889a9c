use Rattle.std.proofs.Common.{◌∙◌, ◌++◌, ap, length}
use Rattle.reasons.proofs.Gathered.{with-nothing}
use Rattle.reasons.proofs.columns.add_nothing.Goals as goal

pub returns-clause-added : goal.returns-clause-added
returns-clause-added c = c.text.ensures.added ∙ ap (λ t. c.args.line.now ++ t) c.requires.commas ∙ with-nothing (length c.args.commas.now) c.args.line.now
