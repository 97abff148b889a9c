use Rattle.std.proofs.Common.{◌∙◌, ◌++◌, ap}
use Rattle.verdict_text.proofs.Parts.{five}
use Rattle.verdict_text.proofs.forms.add_field_count.Goals as goal

pub returns-clause-added : goal.returns-clause-added
returns-clause-added c = five c.args.line.now c.text.new.self c.text-2.new.self c.add_counted.new.line c.text-3.new.self c.add_form.new.line _ _ _ _ _ (c.text.ensures.added ∙ ap (λ t. c.args.line.now ++ t) c.letter_of.ensures.text) c.text-2.ensures.added c.add_counted.ensures.added c.text-3.ensures.added c.add_form.ensures.added
