use Rattle.verdict_text.proofs.Parts.{five}
use Rattle.verdict_text.proofs.forms.add_value.Goals as goal

pub returns-clause-added : goal.returns-clause-added
returns-clause-added c = five c.args.line.now c.add_field.new.line c.text.new.self c.add_shown.new.line c.text-2.new.self c.add_form_of.new.line _ _ _ _ _ c.add_field.ensures.added c.text.ensures.added c.add_shown.ensures.added c.text-2.ensures.added c.add_form_of.ensures.added
