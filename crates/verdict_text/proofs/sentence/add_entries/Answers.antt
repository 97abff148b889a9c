use Rattle.verdict_text.proofs.Parts.{two}
use Rattle.verdict_text.proofs.sentence.add_entries.Goals as goal

pub returns-clause-added : goal.returns-clause-added
returns-clause-added c = two c.args.line.now c.add_counted.new.line c.add_counted-2.new.line _ _ c.add_counted.ensures.added c.add_counted-2.ensures.added
