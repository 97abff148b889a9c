use Rattle.verdict_text.proofs.Parts.{six}
use Rattle.verdict_text.proofs.hindrances.add_due.Goals as goal

pub returns-clause-added : goal.returns-clause-added
returns-clause-added c = six c.args.line.now c.add_no_commit.new.line c.text.new.self c.add_small.new.line c.text-2.new.self c.u32.new.self c.text-3.new.self _ _ _ _ _ _ c.add_no_commit.ensures.added c.text.ensures.added c.add_small.ensures.added c.text-2.ensures.added c.u32.ensures.added c.text-3.ensures.added
