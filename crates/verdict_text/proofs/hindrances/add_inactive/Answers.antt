use Rattle.verdict_text.proofs.Parts.{two}
use Rattle.verdict_text.proofs.hindrances.add_inactive.Goals as goal

pub returns-clause-added : goal.returns-clause-added
returns-clause-added c = two c.args.line.now c.add_craft.new.line c.text.new.self _ _ c.add_craft.ensures.added c.text.ensures.added
