use Rattle.verdict_text.proofs.Parts.{three}
use Rattle.verdict_text.proofs.forms.add_own_cell.Goals as goal

pub returns-clause-added : goal.returns-clause-added
returns-clause-added c = three c.args.line.now c.text.new.self c.add_craft.new.line c.text-2.new.self _ _ _ c.text.ensures.added c.add_craft.ensures.added c.text-2.ensures.added
