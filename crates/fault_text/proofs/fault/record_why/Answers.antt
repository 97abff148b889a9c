use Rattle.std.proofs.Common.{◌∙◌, ap}
use Rattle.enc_file.specs.Conditions.{kind_named}
use Rattle.fault_text.proofs.NamedAgainst.{kind-word}
use Rattle.fault_text.proofs.fault.record_why.Goals as goal

pub returns : goal.returns
returns c = record {
  kind = c.in-Some.kind;
  named = kind-word c.args.version c.args.line.now c.kind_of.result c.in-Some.kind c.in-Some.is (c.kind_of.ensures ∙ ap (kind_named c.args.version) c.field.ensures);
  tells = c.field_why.ensures;
}
