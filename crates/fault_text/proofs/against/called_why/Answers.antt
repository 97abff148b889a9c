use Rattle.fault_text.proofs.AfterOthers.{called-some, tells-called}
use Rattle.fault_text.proofs.against.called_why.Goals as goal

pub unreachable-requires : goal.unreachable-requires
unreachable-requires c =
    called-some c.args.text.now c.args.at c.args.kind c.args.line.now c.requires.against.0 c.field-found.result.now c.field-found.ensures c.requires.against.1 c.requires.none (rw c.in_default.is at c.last_before.ensures)

pub returns : goal.returns
returns c = λ earlier a.
    tells-called c.args.text.now c.args.at c.args.kind c.args.line.now earlier c.in-Some.place c.field-found.result c.field-found.ensures a c.requires.none (rw c.in-Some.is at c.last_before.ensures)
