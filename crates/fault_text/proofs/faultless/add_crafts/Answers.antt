use Rattle.std.proofs.Common.{length}
use Rattle.std.specs.Prelude.{codes}
use Rattle.std.specs.Fmt.{decimal}
use Rattle.fault_text.specs.Faultless.{kinds_text}
use Rattle.fault_text.proofs.Pieces.{four}
use Rattle.fault_text.proofs.faultless.add_crafts.Goals as goal

pub returns-clause-added : goal.returns-clause-added
returns-clause-added c =
    four c.args.line.now c.u32.new.self c.text.new.self c.add_kinds.new.line c.text-2.new.self (decimal (length c.args.crafts.now)) (codes " aircraft (") (kinds_text c.args.crafts.now) (codes "), ")
    c.u32.ensures.added c.text.ensures.added c.add_kinds.ensures.added c.text-2.ensures.added
