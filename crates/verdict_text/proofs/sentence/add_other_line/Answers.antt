use Rattle.verdict_text.proofs.Parts.{four}
use Rattle.verdict_text.proofs.sentence.add_other_line.Goals as goal

pub returns-clause-added : goal.returns-clause-added
returns-clause-added c = four c.args.line.now c.text.new.self c.add_quoted.new.line c.text-2.new.self c.add_found.new.line _ _ _ _ c.text.ensures.added c.add_quoted.ensures.added c.text-2.ensures.added c.add_found.ensures.added
