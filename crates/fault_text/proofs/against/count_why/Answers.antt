use Rattle.fault_text.proofs.AfterOthers.{end-of, many-of}
use Rattle.fault_text.proofs.against.count_why.Goals as goal

pub returns-in-Craft : goal.returns-in-Craft
returns-in-Craft c = many-of c.args.text.now c.args.refusal c.args.kind c.args.line.now c.args.version c.requires.against c.in-Craft.is c.requires.code c.requires.version

pub returns-in_default : goal.returns-in_default
returns-in_default c = end-of c.args.text.now c.args.refusal c.args.kind c.args.line.now c.args.version c.end_why.result c.requires.against c.in_default.not-Craft c.requires.code c.requires.version c.end_why.ensures
