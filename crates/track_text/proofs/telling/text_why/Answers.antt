use Rattle.std.proofs.Common.{◌∙◌, ap, sym}
use Rattle.enc_file.specs.declared.refusal.Code.TheVariants as code
use Rattle.fault_text.specs.declared.fault.Why.TheVariants as shared
use Rattle.enc_file.specs.Earlier.{version_of}
use Rattle.track_text.specs.Conditions.{kind_named}
use Rattle.track_text.specs.Earlier.{shared_of}
use Rattle.track_text.specs.declared.refusal.Fault.TheVariants.{Text}
use Rattle.track_text.specs.declared.why.TrackWhy.TheVariants as why
use Rattle.track_text.proofs.RefusedTracks.{after-at, after-counted, no-box, tells-by, unnamed-line}
use Rattle.enc_file.specs.Records.{records_of}
use Rattle.track_text.proofs.telling.text_why.Goals as goal

pub unreachable-requires : goal.unreachable-requires
unreachable-requires c = no-box (records_of c.args.text.now) c.args.refusal c.requires.refused (c.requires.code ∙ ap Text c.in-Box.is)

pub place_of-requires-clause-counted : goal.place_of-requires-clause-counted
place_of-requires-clause-counted c = after-counted (records_of c.args.text.now) c.args.refusal c.requires.refused (c.requires.code ∙ ap Text c.in-After.is)

pub returns-in-Kind : goal.returns-in-Kind
returns-in-Kind c =
    let is = c.requires.code ∙ ap Text c.in-Kind.is in
    let u = unnamed-line c.args.text.now c.args.refusal c.requires.refused c.args.line.now is c.requires.place in
    tells-by c.args.text.now c.args.refusal c.requires.refused c.args.line.now (why.NoKind c.format_of.result c.field.result) (Text code.Kind) is
    (sym (c.format_of.ensures c.args.refusal c.requires.refused u.some), c.field.ensures, ap (kind_named (version_of (shared_of c.requires.refused.earlier))) c.field.ensures ∙ u.named)

pub returns-in-After : goal.returns-in-After
returns-in-After c =
    let is = c.requires.code ∙ ap Text c.in-After.is in
    let at = after-at c.args.text.now c.args.refusal c.requires.refused c.place_of.result.number c.place_of.result.line.now is c.place_of.ensures.place in
    tells-by c.args.text.now c.args.refusal c.requires.refused c.args.line.now (why.Shared (shared.After c.place_of.result.number)) (Text code.After) is (c.place_of.result.line.now, at.0, at.1)
