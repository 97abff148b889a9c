use Rattle.enc_file.specs.declared.refusal.Code.TheVariants as code
use Rattle.fault_text.proofs.RefusedRows.{all_said, refused-against, tells-as}
use Rattle.fault_text.proofs.against.against_why.Goals as goal

pub repeat_why-requires-clause-against : goal.repeat_why-requires-clause-against
repeat_why-requires-clause-against c =
    let a = c.requires.against in
    (all_said a.refused.earlier, refused-against c.args.text.now c.args.refusal c.args.kind c.args.line.now code.Repeat a c.in-Repeat.is)

pub unknown_why-requires-clause-against : goal.unknown_why-requires-clause-against
unknown_why-requires-clause-against c =
    let a = c.requires.against in
    (all_said a.refused.earlier, refused-against c.args.text.now c.args.refusal c.args.kind c.args.line.now code.Unknown a c.in-Unknown.is)

pub returns-in-Repeat : goal.returns-in-Repeat
returns-in-Repeat c =
    let a = c.requires.against in
    tells-as c.args.text.now c.args.refusal c.args.kind c.args.line.now c.repeat_why.result code.Repeat a c.in-Repeat.is
    (c.repeat_why.ensures (all_said a.refused.earlier) (refused-against c.args.text.now c.args.refusal c.args.kind c.args.line.now code.Repeat a c.in-Repeat.is))

pub returns-in-Unknown : goal.returns-in-Unknown
returns-in-Unknown c =
    let a = c.requires.against in
    tells-as c.args.text.now c.args.refusal c.args.kind c.args.line.now c.unknown_why.result code.Unknown a c.in-Unknown.is
    (c.unknown_why.ensures (all_said a.refused.earlier) (refused-against c.args.text.now c.args.refusal c.args.kind c.args.line.now code.Unknown a c.in-Unknown.is))
