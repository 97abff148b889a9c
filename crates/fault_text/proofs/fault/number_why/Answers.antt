use Rattle.std.proofs.Common.{sym}
use Rattle.fault_text.specs.Lines.{fields_in}
use Rattle.fault_text.proofs.Wrong.{number-turned, turned-number}
use Rattle.fault_text.proofs.fault.number_why.Goals as goal

pub turned_why-requires : goal.turned_why-requires
turned_why-requires c = (number-turned c.args.kind (fields_in c.args.line.now) c.requires.counted c.requires.wrong (sym c.in-None.ensures)).turned

pub returns-in-None : goal.returns-in-None
returns-in-None c =
    turned-number c.args.kind c.args.line.now c.turned_why.result c.in-None.ensures
    (number-turned c.args.kind (fields_in c.args.line.now) c.requires.counted c.requires.wrong (sym c.in-None.ensures)).miss c.turned_why.ensures
