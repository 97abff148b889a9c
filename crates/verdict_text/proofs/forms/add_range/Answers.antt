use Rattle.verdict_text.proofs.Parts.{five}
use Rattle.verdict_text.proofs.forms.add_range.Goals as goal

pub returns-clause-added : goal.returns-clause-added
returns-clause-added c = five c.args.line.now c.text.new.self c.u32.new.self c.text-2.new.self c.u32-2.new.self c.add_hint.new.line _ _ _ _ _ c.text.ensures.added c.u32.ensures.added c.text-2.ensures.added c.u32-2.ensures.added c.add_hint.ensures.added
