use Rattle.deliveries.proofs.Telling.{five-parts}
use Rattle.deliveries.specs.Text.{count_part}
use Rattle.deliveries.proofs.lines.add_counts.Goals as goal

pub returns-clause-added : goal.returns-clause-added
returns-clause-added c =
    let s = c.args.deliveries.now in
    five-parts (count_part s.encounter s.journal) c.args.line.now c.add_count.new.line c.add_count-2.new.line c.add_count-3.new.line c.add_count-4.new.line c.add_count-5.new.line
    c.add_count.ensures.added c.add_count-2.ensures.added c.add_count-3.ensures.added c.add_count-4.ensures.added c.add_count-5.ensures.added
