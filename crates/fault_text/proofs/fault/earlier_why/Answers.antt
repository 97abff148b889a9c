use Rattle.std.proofs.Common.{◌∙◌, ap}
use Rattle.enc_file.specs.Conditions.{kind_named}
use Rattle.fault_text.proofs.NamedAgainst.{against-as, kind-word}
use Rattle.fault_text.proofs.fault.earlier_why.Goals as goal

pub against_why-requires-clause-against : goal.against_why-requires-clause-against
against_why-requires-clause-against c =
    against-as c.args.text.now c.args.refusal c.args.version c.args.line.now c.requires.against c.kind_of.result c.in-Some.kind c.in-Some.is (c.kind_of.ensures ∙ ap (kind_named c.args.version) c.field.ensures)

pub returns : goal.returns
returns c = record {
  kind = c.in-Some.kind;
  named = kind-word c.args.version c.args.line.now c.kind_of.result c.in-Some.kind c.in-Some.is (c.kind_of.ensures ∙ ap (kind_named c.args.version) c.field.ensures);
  earlier = c.against_why.ensures;
}
