use Rattle.verdict_text.proofs.Parts.{four}
use Rattle.verdict_text.proofs.hindrances.add_owes_first.Goals as goal

pub returns-clause-added : goal.returns-clause-added
returns-clause-added c = four c.args.line.now c.add_no_send.new.line c.text.new.self c.add_small.new.line c.text-2.new.self _ _ _ _ c.add_no_send.ensures.added c.text.ensures.added c.add_small.ensures.added c.text-2.ensures.added
