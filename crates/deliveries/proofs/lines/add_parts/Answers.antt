use Rattle.deliveries.proofs.Telling.{five-parts}
use Rattle.deliveries.specs.Text.{mishap_part}
use Rattle.deliveries.proofs.lines.add_parts.Goals as goal

pub returns-clause-added : goal.returns-clause-added
returns-clause-added c =
    let s = c.args.deliveries.now in
    five-parts (mishap_part s.encounter s.journal c.args.sender c.args.receiver) c.args.line.now c.add_part.new.line c.add_part-2.new.line c.add_part-3.new.line c.add_part-4.new.line c.add_part-5.new.line
    c.add_part.ensures.added c.add_part-2.ensures.added c.add_part-3.ensures.added c.add_part-4.ensures.added c.add_part-5.ensures.added
