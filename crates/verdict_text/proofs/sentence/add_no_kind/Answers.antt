use Rattle.verdict_text.proofs.Parts.{two}
use Rattle.verdict_text.proofs.sentence.add_no_kind.Goals as goal

pub returns-clause-added : goal.returns-clause-added
returns-clause-added c = two c.args.line.now c.add_shown.new.line c.text.new.self _ _ c.add_shown.ensures.added c.text.ensures.added
