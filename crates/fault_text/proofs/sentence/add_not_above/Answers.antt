use Rattle.std.specs.Prelude.{codes}
use Rattle.std.specs.Fmt.{decimal}
use Rattle.fault_text.specs.Sentences.{reached_text, rising_text}
use Rattle.fault_text.proofs.Pieces.{four}
use Rattle.fault_text.proofs.sentence.add_not_above.Goals as goal

pub returns-clause-added : goal.returns-clause-added
returns-clause-added c =
    four c.args.line.now c.add_rising.new.line c.text.new.self c.u16.new.self c.add_reached.new.line (rising_text c.args.of c.args.found) (codes ", and has to be above ") (decimal c.args.reached) (reached_text c.args.of c.args.number)
    c.add_rising.ensures.added c.text.ensures.added c.u16.ensures.added c.add_reached.ensures.added
