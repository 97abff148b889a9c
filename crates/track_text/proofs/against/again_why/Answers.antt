use Rattle.std.proofs.Common.{◌≡◌, ◌∙◌, ap}
use Rattle.enc_file.specs.declared.refusal.Code.TheVariants as code
use Rattle.fault_text.specs.declared.names.RecordKind.TheVariants as kind
use Rattle.track_text.specs.Told.{all_shared}
use Rattle.track_text.specs.declared.kinds.LineKind.TheVariants as of
use Rattle.track_text.specs.declared.kinds.OwnKind.TheVariants as own
use Rattle.track_text.specs.declared.why.TrackWhy.TheVariants as why
use Rattle.track_text.proofs.EarlierTracks.{against-as, craft-repeated, shared-repeated, tells-kind}
use Rattle.track_text.proofs.TrackRows.{shared-against}
use Rattle.track_text.proofs.against.again_why.Goals as goal

pub repeat_why-requires-clause-against : goal.repeat_why-requires-clause-against
repeat_why-requires-clause-against c =
    let is : c.args.kind ≡ of.Own own.Craft = c.in-Own.is ∙ ap of.Own c.in-Craft.is in
    let a = against-as c.args.text.now c.args.refusal code.Repeat c.args.kind (of.Own own.Craft) c.args.line.now is c.requires.against in
    (all_shared a.refused.earlier, shared-against c.args.text.now c.args.refusal code.Repeat kind.Craft c.args.line.now a)

pub repeat_why-requires-in-Shared-clause-against : goal.repeat_why-requires-in-Shared-clause-against
repeat_why-requires-in-Shared-clause-against c =
    let a = against-as c.args.text.now c.args.refusal code.Repeat c.args.kind (of.Shared c.in-Shared.kind) c.args.line.now c.in-Shared.is c.requires.against in
    (all_shared a.refused.earlier, shared-against c.args.text.now c.args.refusal code.Repeat c.in-Shared.kind c.args.line.now a)

pub returns-in-Craft : goal.returns-in-Craft
returns-in-Craft c =
    let is : c.args.kind ≡ of.Own own.Craft = c.in-Own.is ∙ ap of.Own c.in-Craft.is in
    let a = against-as c.args.text.now c.args.refusal code.Repeat c.args.kind (of.Own own.Craft) c.args.line.now is c.requires.against in
    tells-kind c.args.text.now c.args.refusal code.Repeat c.args.kind (of.Own own.Craft) c.args.line.now (why.Shared c.repeat_why.result) is
    (craft-repeated c.args.text.now c.args.refusal c.args.line.now c.repeat_why.result a c.repeat_why.ensures)

pub returns-in-Shared : goal.returns-in-Shared
returns-in-Shared c =
    let k = c.in-Shared.kind in
    let a = against-as c.args.text.now c.args.refusal code.Repeat c.args.kind (of.Shared k) c.args.line.now c.in-Shared.is c.requires.against in
    tells-kind c.args.text.now c.args.refusal code.Repeat c.args.kind (of.Shared k) c.args.line.now (why.Shared c.repeat_why-in-Shared.result) c.in-Shared.is
    (shared-repeated c.args.text.now c.args.refusal k c.args.line.now c.repeat_why-in-Shared.result a c.repeat_why-in-Shared.ensures)
