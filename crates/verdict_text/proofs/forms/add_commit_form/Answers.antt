use Rattle.verdict_text.proofs.Parts.{two}
use Rattle.verdict_text.proofs.forms.add_commit_form.Goals as goal

pub returns-clause-added : goal.returns-clause-added
returns-clause-added c = two c.args.line.now c.text.new.self c.add_few.new.line _ _ c.text.ensures.added c.add_few.ensures.added
