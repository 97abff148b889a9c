use Rattle.std.proofs.Common.{◌∙◌, ap}
use Rattle.enc_file.specs.Conditions.{kind_named}
use Rattle.fault_text.proofs.Refusals.{after-at, after-counted, is-kinded, kinded-at, kinded-headed, unnamed-at, unnamed-headed}
use Rattle.fault_text.proofs.NamedAgainst.{after-headed, is-after, named-against, told-after}
use Rattle.fault_text.proofs.fault.why_of.Goals as goal

pub format_of-requires-clause-headed : goal.format_of-requires-clause-headed
format_of-requires-clause-headed c = unnamed-headed c.args.text.now c.args.refusal c.requires.refused c.in-Kind.is

pub format_of-requires-in-Fields-clause-headed : goal.format_of-requires-in-Fields-clause-headed
format_of-requires-in-Fields-clause-headed c = kinded-headed c.args.text.now c.args.refusal c.requires.refused (is-kinded c.args.refusal.code c.in-Fields.is)

pub record_why-requires-clause-fault : goal.record_why-requires-clause-fault
record_why-requires-clause-fault c =
    kinded-at c.args.text.now c.args.refusal c.args.line.now c.format_of-in-Fields.result c.requires.refused (is-kinded c.args.refusal.code c.in-Fields.is) c.requires.place c.format_of-in-Fields.ensures

pub place_of-requires-clause-counted : goal.place_of-requires-clause-counted
place_of-requires-clause-counted c = after-counted c.args.text.now c.args.refusal c.requires.refused c.in-After.is

pub returns-in-Kind : goal.returns-in-Kind
returns-in-Kind c =
    rw c.in-Kind.is (
      c.format_of.ensures,
      c.field.ensures,
      ap (kind_named c.format_of.result) c.field.ensures ∙ unnamed-at c.args.text.now c.args.refusal c.args.line.now c.format_of.result c.requires.refused c.in-Kind.is c.requires.place c.format_of.ensures,
    )

pub returns-in-After : goal.returns-in-After
returns-in-After c =
    let at = after-at c.args.text.now c.args.refusal c.place_of.result.number c.place_of.result.line.now c.requires.refused c.in-After.is c.place_of.ensures.place in
    rw c.in-After.is (c.place_of.result.line.now, at.0, at.1)

pub format_of-requires-in-Repeat-clause-headed : goal.format_of-requires-in-Repeat-clause-headed
format_of-requires-in-Repeat-clause-headed c = after-headed c.args.text.now c.args.refusal c.requires.refused (is-after c.args.refusal.code c.in-Repeat.is)

pub earlier_why-requires-clause-against : goal.earlier_why-requires-clause-against
earlier_why-requires-clause-against c =
    named-against c.args.text.now c.args.refusal c.args.line.now c.format_of-in-Repeat.result c.requires.refused (is-after c.args.refusal.code c.in-Repeat.is) c.requires.place c.format_of-in-Repeat.ensures

pub returns-in-Repeat : goal.returns-in-Repeat
returns-in-Repeat c = told-after c.args.text.now c.args.refusal c.args.line.now c.earlier_why.result c.in-Repeat.is c.earlier_why.ensures
